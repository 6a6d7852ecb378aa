use Rattle.std.proofs.Common.{◌≡◌, List, map, ap, subst, ◌∙◌}
use Rattle.bim_model.specs.Rules.{IsRules}
use Rattle.bim_model.specs.Keys.{subjects_of}
use Rattle.bim_model.specs.declared.rules.Rule.{Rule}
use Rattle.bim_model.specs.declared.geometry.Extent.{Extent}
use Rattle.bucket_grid.specs.Cells.{members}
use Rattle.bucket_grid.specs.Grids.{GridValue}
use Rattle.bucket_grid.specs.Subjects.{AreBoxes}
use Rattle.bucket_check.specs.Clashes.{own_clashes}
use Rattle.bucket_check.specs.ClashSets.{SetValue, pair_at}
use Rattle.bucket_check.proofs.Local.{found}
use Rattle.bucket_check.proofs.set.BucketSet.pairs.Goals as goal

pub returns-clause-owned : goal.returns-clause-owned
returns-clause-owned c =
    let grid = c.self.inside.work.grid in
    let cell = c.self.inside.work.cell in
    let few : IsRules grid.version.rules = subst (λ (l : List Rule). IsRules l) (c.rules.ensures.same ∙ ap (λ (v : GridValue). v.version.rules) c.get.ensures) c.rules.ensures.rules in
    let are : AreBoxes (subjects_of grid.version.models) grid.boxes =
    subst (λ (v : GridValue). AreBoxes (subjects_of v.version.models) v.boxes) c.get-2.ensures
    (subst (λ (l : List Extent). AreBoxes (subjects_of c.get-2.result.now.version.models) l) c.boxes.ensures.boxes c.boxes.ensures.boxed) in
    let is = c.as_slice.ensures ∙ c.get-3.ensures ∙ c.self.invariant in
    subst (λ (v : SetValue). map (pair_at (members v.work.grid.boxes v.work.cell)) c.as_slice.result.now ≡ own_clashes v.work.grid.version v.work.grid.boxes v.work.cell) c.self.view_is
    (ap (map (pair_at (members grid.boxes cell))) is ∙ found grid.version grid.boxes cell few are)
