use Rattle.spatial_tree.proofs.OneStorey.{one_storey, one_tree_fault, tree_apart}
use Rattle.spatial_tree.proofs.laws.one_storey.Goals as goal

pub returns : goal.returns
returns c = record { storey = one_storey; fault = one_tree_fault; apart = tree_apart }
