use Rattle.std.proofs.Common.{◌≡◌, List, ap, sym, subst, ◌∙◌}
use Rattle.bim_model.specs.Keys.{subjects_of}
use Rattle.bim_model.specs.declared.geometry.Extent.{Extent}
use Rattle.bucket_grid.specs.Grids.{GridValue}
use Rattle.bucket_grid.specs.Subjects.{AreBoxes}
use Rattle.bucket_check.specs.ClashSets.{SetValue, own_places, IsUnmoved}
use Rattle.bucket_check.proofs.Unmoved.{unmoved}
use Rattle.bucket_check.proofs.set.BucketSet.moved.Goals as goal

pub of-requires : goal.of-requires
of-requires c =
    let before = c.self.inside.work.grid in
    let after = c.args.work.grid in
    let cell = c.args.work.cell in
    let first : AreBoxes (subjects_of before.version.models) before.boxes =
    subst (λ (v : GridValue). AreBoxes (subjects_of v.version.models) v.boxes) c.get.ensures
    (subst (λ (l : List Extent). AreBoxes (subjects_of c.get.result.now.version.models) l) c.boxes.ensures.boxes c.boxes.ensures.boxed) in
    let second : AreBoxes (subjects_of after.version.models) after.boxes =
    subst (λ (v : GridValue). AreBoxes (subjects_of v.version.models) v.boxes) c.get-2.ensures
    (subst (λ (l : List Extent). AreBoxes (subjects_of c.get-2.result.now.version.models) l) c.boxes-2.ensures.boxes c.boxes-2.ensures.boxed) in
    let same : IsUnmoved before after cell = subst (λ (v : SetValue). IsUnmoved v.work.grid after cell) (sym c.self.view_is) c.requires.unmoved in
    let here : c.self.inside.work.cell ≡ cell = ap (λ (v : SetValue). v.work.cell) c.self.view_is ∙ sym c.requires.cell in
    c.in_ok-pairs.ensures ∙ c.self.invariant ∙ ap (own_places before) here ∙ unmoved before after cell first second same
