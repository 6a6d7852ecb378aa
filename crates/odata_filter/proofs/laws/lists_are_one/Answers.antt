use Rattle.odata_filter.proofs.OneListing.{one_listing}
use Rattle.odata_filter.proofs.laws.lists_are_one.Goals as goal

pub returns : goal.returns
returns c listing topics ps qs h k = one_listing listing topics ps qs h k
