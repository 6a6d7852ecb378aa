use Rattle.std.proofs.Common.{rules, of_calls, ◌≡◌, ℕ, List, length, get_or, map, set, Some, None, refl, sym, ap, subst, arith, ◌∙◌}
use Rattle.std.specs.Ordering.{nat_cmp}
use Rattle.std.proofs.lemmas.Fn.{always_returns_same}
use Rattle.clash_delta.specs.declared.slot.Slot.{Slot}
use Rattle.clash_delta.specs.BucketProgress.{undone_cells, filled}
use Rattle.clash_delta.specs.BucketPlaces.{IsPlaceOf}
use Rattle.clash_delta.proofs.Marked.{all, not_missing, still, one_fewer}
use Rattle.clash_delta.proofs.progress.Progress.fill.Goals as goal

pub invariant_of-self : goal.invariant_of-self
invariant_of-self c =
    let slots = c.self.inside.slots.items in
    let at = subst (λ (l : List Slot). IsPlaceOf l c.args.set.work.cell c.args.place) (sym c.self.view_is) c.requires.cell in
    let none = subst (λ (l : List Slot). (d : Slot) → (get_or l c.args.place d).set ≡ None) (sym c.self.view_is) c.requires.undone in
    let cell = ap (λ (s : Slot). s.cell) c.index_mut.ensures.value ∙ at.is c.index_mut.result.now in
    let equal = c.in-Ok.ensures.position (λ y. nat_cmp c.args.place y) (always_returns_same _ _ _ (λ a r f k. search (rules, of_calls))) in
    still slots c.self.inside.undone.items c.self.invariant c.args.set c.args.place _ at none cell refl c.deref.result.now c.in-Ok.index _ c.deref.ensures.value c.in-Ok.ensures.bound equal c.remove.ensures.items

pub invariant_of-self-in_default : goal.invariant_of-self-in_default
invariant_of-self-in_default c =
    let slots = c.self.inside.slots.items in
    let at = subst (λ (l : List Slot). IsPlaceOf l c.args.set.work.cell c.args.place) (sym c.self.view_is) c.requires.cell in
    let none = subst (λ (l : List Slot). (d : Slot) → (get_or l c.args.place d).set ≡ None) (sym c.self.view_is) c.requires.undone in
    let cell = ap (λ (s : Slot). s.cell) c.index_mut.ensures.value ∙ at.is c.index_mut.result.now in
    let parted = c.in_default.ensures.position (λ y. nat_cmp c.args.place y) (always_returns_same _ _ _ (λ a r f k. search (rules, of_calls))) in
    absurd (not_missing slots c.self.inside.undone.items c.self.invariant c.args.set c.args.place (record { cell = c.index_mut.result.now.cell; set = Some c.args.set }) at none cell refl c.deref.result.now c.in_default.field-0 c.deref.ensures.value parted)

pub returns-in-Ok-clause-slots : goal.returns-in-Ok-clause-slots
returns-in-Ok-clause-slots c =
    let slots = c.self.inside.slots.items in
    let at = subst (λ (l : List Slot). IsPlaceOf l c.args.set.work.cell c.args.place) (sym c.self.view_is) c.requires.cell in
    let none = subst (λ (l : List Slot). (d : Slot) → (get_or l c.args.place d).set ≡ None) (sym c.self.view_is) c.requires.undone in
    let cell = ap (λ (s : Slot). s.cell) c.index_mut.ensures.value ∙ at.is c.index_mut.result.now in
    all slots c.self.inside.undone.items c.self.invariant c.args.set c.args.place _ at none cell refl ∙ ap (λ (l : List Slot). map (filled c.args.set) l) c.self.view_is

pub returns-in-Ok-clause-left : goal.returns-in-Ok-clause-left
returns-in-Ok-clause-left c =
    let slots = c.self.inside.slots.items in
    let at = subst (λ (l : List Slot). IsPlaceOf l c.args.set.work.cell c.args.place) (sym c.self.view_is) c.requires.cell in
    let none = subst (λ (l : List Slot). (d : Slot) → (get_or l c.args.place d).set ≡ None) (sym c.self.view_is) c.requires.undone in
    let cell = ap (λ (s : Slot). s.cell) c.index_mut.ensures.value ∙ at.is c.index_mut.result.now in
    let equal = c.in-Ok.ensures.position (λ y. nat_cmp c.args.place y) (always_returns_same _ _ _ (λ a r f k. search (rules, of_calls))) in
    let kept = still slots c.self.inside.undone.items c.self.invariant c.args.set c.args.place (record { cell = c.index_mut.result.now.cell; set = Some c.args.set }) at none cell refl c.deref.result.now c.in-Ok.index c.remove.new.self.items c.deref.ensures.value c.in-Ok.ensures.bound equal c.remove.ensures.items in
    one_fewer slots c.self.inside.undone.items c.self.invariant c.args.set c.args.place _ at none cell refl c.remove.new.self.items kept
    (omega (arith, c.remove.ensures.len, c.remove.new.self.ok.0, c.self.inside.undone.ok.0)) ∙ ap (λ (l : List Slot). length (undone_cells l)) c.self.view_is

pub returns-in_default-clause-slots : goal.returns-in_default-clause-slots
returns-in_default-clause-slots c =
    let slots = c.self.inside.slots.items in
    let at = subst (λ (l : List Slot). IsPlaceOf l c.args.set.work.cell c.args.place) (sym c.self.view_is) c.requires.cell in
    let none = subst (λ (l : List Slot). (d : Slot) → (get_or l c.args.place d).set ≡ None) (sym c.self.view_is) c.requires.undone in
    let cell = ap (λ (s : Slot). s.cell) c.index_mut.ensures.value ∙ at.is c.index_mut.result.now in
    all slots c.self.inside.undone.items c.self.invariant c.args.set c.args.place _ at none cell refl ∙ ap (λ (l : List Slot). map (filled c.args.set) l) c.self.view_is

pub returns-in_default-clause-left : goal.returns-in_default-clause-left
returns-in_default-clause-left c =
    let slots = c.self.inside.slots.items in
    let at = subst (λ (l : List Slot). IsPlaceOf l c.args.set.work.cell c.args.place) (sym c.self.view_is) c.requires.cell in
    let none = subst (λ (l : List Slot). (d : Slot) → (get_or l c.args.place d).set ≡ None) (sym c.self.view_is) c.requires.undone in
    let cell = ap (λ (s : Slot). s.cell) c.index_mut.ensures.value ∙ at.is c.index_mut.result.now in
    let parted = c.in_default.ensures.position (λ y. nat_cmp c.args.place y) (always_returns_same _ _ _ (λ a r f k. search (rules, of_calls))) in
    absurd (not_missing slots c.self.inside.undone.items c.self.invariant c.args.set c.args.place (record { cell = c.index_mut.result.now.cell; set = Some c.args.set }) at none cell refl c.deref.result.now c.in_default.field-0 c.deref.ensures.value parted)
