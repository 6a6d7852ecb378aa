use Rattle.std.proofs.Common.{◌≡◌, ◌<◌, ◌++◌, List, All, length, sym, ap, subst, ◌∙◌, arith}
use Rattle.std.proofs.lemmas.List.{length-map}
use Rattle.bim_model.specs.declared.geometry.Extent.{Extent}
use Rattle.bim_model.specs.Keys.{subjects_of}
use Rattle.box_lanes.specs.BoxPlaces.{box_at}
use Rattle.bucket_grid.specs.ElementPlaces.{IsGridBox}
use Rattle.bucket_grid.specs.Subjects.{IsBoxOf, AreBoxes}
use Rattle.bucket_grid.proofs.Zips.{zip_length}
use Rattle.bucket_check.specs.declared.pair.SetPair.{SetPair}
use Rattle.bucket_check.specs.ClashSets.{number_at}
use Rattle.bucket_check.proofs.Row.{row_is, few_later, later_inside}
use Rattle.bucket_check.proofs.narrow_phase.add_later.Goals as goal

pub bounds-boxes-members : goal.bounds-boxes-members
bounds-boxes-members g c = omega (arith, ap length c.boxes-boxes.ensures.boxes, c.requires.members_in c.args.first 0 c.requires.first_in)

pub later_within-requires : goal.later_within-requires
later_within-requires g c = omega (arith, ap length c.requires.table, length-map c.args.members.now (box_at c.args.grid.now.boxes))

pub add_row-requires-clause-places_in : goal.add_row-requires-clause-places_in
add_row-requires-clause-places_in g c =
    let listed = c.deref.ensures.value ∙ c.in_ok-later_within.ensures in
    let many : length c.args.room.now.table ≡ length c.args.members.now = ap length c.requires.table ∙ length-map c.args.members.now (box_at c.args.grid.now.boxes) in
    subst (λ n. All (λ k. k < n) c.deref.result.now) many (subst (All (λ k. k < length c.args.room.now.table)) (sym listed) (later_inside c.args.start.now c.args.greatest (box_at c.boxes-boxes.result.now (number_at c.args.members.now c.args.first)) c.args.first c.args.room.now.table))

pub returns-clause-pairs : goal.returns-clause-pairs
returns-clause-pairs g c =
    let a = c.args in
    let grid = a.grid.now in
    let boxes = c.boxes-boxes.ensures in
    let are : AreBoxes (subjects_of grid.version.models) grid.boxes = subst (AreBoxes (subjects_of grid.version.models)) boxes.boxes boxes.boxed in
    let near : All IsGridBox grid.boxes = subst (All IsGridBox) boxes.boxes boxes.near in
    let count = zip_length IsBoxOf (subjects_of grid.version.models) grid.boxes are in
    let listed = c.deref.ensures.value ∙ c.in_ok-later_within.ensures in
    let row =
    row_is grid.version grid.boxes a.cell are near a.members.now (λ i d k. let n = c.requires.members_in i d k in omega (arith, n, count)) a.first c.requires.first_in a.room.now.table a.start.now a.greatest _ c.deref.result.now
    c.requires.table c.requires.start (ap (λ (xs : List Extent). box_at xs (number_at a.members.now a.first)) boxes.boxes) c.requires.greatest listed in
    c.in_ok-add_row.ensures.pairs ∙ ap (λ (l : List SetPair). a.pairs.now.items ++ l) row

pub returns-clause-steps : goal.returns-clause-steps
returns-clause-steps g c =
    let listed = c.deref.ensures.value ∙ c.in_ok-later_within.ensures in
    omega (arith, c.in_ok-add_row.ensures.steps, ap length listed, few_later c.args.start.now c.args.greatest (box_at c.boxes-boxes.result.now (number_at c.args.members.now c.args.first)) c.args.first c.args.room.now.table, ap length c.requires.table, length-map c.args.members.now (box_at c.args.grid.now.boxes))

pub returns-in_err-add_row-clause-steps : goal.returns-in_err-add_row-clause-steps
returns-in_err-add_row-clause-steps g c =
    let listed = c.deref.ensures.value ∙ c.in_ok-later_within.ensures in
    omega (arith, c.in_err-add_row.ensures.steps, ap length listed, few_later c.args.start.now c.args.greatest (box_at c.boxes-boxes.result.now (number_at c.args.members.now c.args.first)) c.args.first c.args.room.now.table, ap length c.requires.table, length-map c.args.members.now (box_at c.args.grid.now.boxes))
