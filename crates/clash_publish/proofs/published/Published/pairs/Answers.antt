use Rattle.std.proofs.Common.{subst, ◌∙◌}
use Rattle.std.specs.List.{All}
use Rattle.std.proofs.lemmas.List.Elements.{All-same}
use Rattle.bim_model.specs.Snapshots.{Version}
use Rattle.bucket_check.specs.Clashes.{clashes, IsBefore}
use Rattle.bucket_check.proofs.Lists.{all_have}
use Rattle.clash_publish.specs.Listed.{IsClash}
use Rattle.clash_publish.proofs.Reasons.{listed}
use Rattle.clash_publish.proofs.published.Published.pairs.Goals as goal

pub returns-clause-each : goal.returns-clause-each
returns-clause-each c =
    let version = c.self.inside.grid.version in
    subst (λ (v : Version). All (IsClash v) c.as_slice.result.now) c.self.view_is
    (All-same (IsClash version) c.as_slice.result.now (clashes version) (c.as_slice.ensures.value ∙ c.self.invariant)
    (all_have IsBefore (IsClash version) (clashes version) (listed version)))
