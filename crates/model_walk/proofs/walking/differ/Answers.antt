use Rattle.std.proofs.Common.{subst}
use Rattle.std.specs.List.Sorted.{IsPermutation}
use Rattle.model_walk.specs.Checked.{Alternate}
use Rattle.model_walk.proofs.GuidsDiffer.{on_true, elements_differ}
use Rattle.model_walk.proofs.walking.differ.Goals as goal

pub returns : goal.returns
returns c =
    let guids = c.sort_unstable.new.self.items in
    on_true c.alternate.result
    (λ beside. elements_differ c.args.elements.now guids (subst (λ gs. IsPermutation gs guids) c.in_ok-guids.ensures c.sort_unstable.ensures.permutation) c.sort_unstable.ensures.sorted (subst Alternate c.deref.ensures.value beside))
    c.alternate.ensures
