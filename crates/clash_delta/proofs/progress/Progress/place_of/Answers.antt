use Rattle.std.proofs.Common.{rules, List, length, Ok, Err, sym, subst, ◌∙◌}
use Rattle.std.specs.List.Sorted.{IsSearchInRange, IsBinarySearchResult}
use Rattle.std.proofs.lemmas.List.Sorted.{answers_always}
use Rattle.bucket_grid.specs.Cells.{cell_cmp}
use Rattle.clash_delta.specs.declared.slot.Slot.{Slot}
use Rattle.clash_delta.specs.BucketPlaces.{Rise}
use Rattle.clash_delta.proofs.Searched.{found_at, found_nowhere}
use Rattle.clash_delta.proofs.progress.Progress.place_of.Goals as goal

pub returns-in-Ok : goal.returns-in-Ok
returns-in-Ok c =
    let all = c.deref.ensures.value ∙ c.self.view_is in
    let rise = subst (λ (l : List Slot). Rise l) c.self.view_is c.self.invariant.rising in
    let equal = c.in-Ok.ensures.position (λ (s : Slot). s.cell) (answers_always _ _ _ (λ f a r g called. search rules)) in
    found_at c.args.self.now rise c.args.cell c.in-Ok.place (subst (λ (l : List Slot). IsSearchInRange (Ok c.in-Ok.place) (length l)) all c.in-Ok.ensures.bound)
    (subst (λ (l : List Slot). IsBinarySearchResult (λ (s : Slot). cell_cmp s.cell c.args.cell) l (Ok c.in-Ok.place)) all equal)

pub returns-in-Err : goal.returns-in-Err
returns-in-Err c =
    let all = c.deref.ensures.value ∙ c.self.view_is in
    let rise = subst (λ (l : List Slot). Rise l) c.self.view_is c.self.invariant.rising in
    let parted = c.in-Err.ensures.position (λ (s : Slot). s.cell) (answers_always _ _ _ (λ f a r g called. search rules)) in
    found_nowhere c.args.self.now rise c.args.cell c.in-Err.field-0 (subst (λ (l : List Slot). IsBinarySearchResult (λ (s : Slot). cell_cmp s.cell c.args.cell) l (Err c.in-Err.field-0)) all parted)
