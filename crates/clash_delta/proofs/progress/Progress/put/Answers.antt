use Rattle.std.proofs.Common.{◌≡◌, List, get_or, is_none, not, refl, sym, ap, subst, ◌∙◌}
use Rattle.bucket_grid.specs.declared.cell.Cell.{Cell}
use Rattle.bucket_check.specs.declared.bucket_work.BucketWork.{BucketWork}
use Rattle.bucket_check.specs.ClashSets.{SetValue, own_places}
use Rattle.clash_delta.specs.declared.slot.Slot.{Slot}
use Rattle.clash_delta.specs.declared.progress.PutAnswer.TheVariants.{Taken, AlreadyDone}
use Rattle.clash_delta.specs.BucketProgress.{IsBucketOf, IsOf}
use Rattle.clash_delta.specs.BucketPlaces.{Rise, IsPlaceOf}
use Rattle.std.proofs.lemmas.List.{get_or_default}
use Rattle.clash_delta.proofs.Undone.{not_done_at}
use Rattle.clash_delta.proofs.Filled.{none_filled, filled_of}
use Rattle.clash_delta.proofs.progress.Progress.put.Goals as goal
use Rattle.clash_delta.proofs.progress.Progress.put.Goals.{in_default-via-in-Some+else-is_none, in_default-via-in_default}

differ : Taken ≡ AlreadyDone → ⊥
differ e = cc

pub returns-in-Some-clause-already : goal.returns-in-Some-clause-already
returns-in-Some-clause-already c =
    let rise = subst (λ (l : List Slot). Rise l) c.self.view_is c.self.invariant.rising in
    let here = ap (λ (w : BucketWork). w.cell) (c.work.ensures ∙ ap (λ (s : SetValue). s.work) c.get-2.ensures) in
    let at = subst (λ (k : Cell). IsPlaceOf c.args.self.now k c.in-Some.place) here c.in-Some.ensures in
    let is = c.index.ensures ∙ ap (λ (l : List Slot). get_or l c.in-Some.place c.index.result.now) c.self.view_is in
    let never = not_done_at c.args.self.now c.args.set.work.cell c.in-Some.place c.index.result.now rise at is (ap not (c.is_none.ensures ∙ ap not c.if-is_none.true)) in
    (λ e. absurd (differ e), λ done. absurd (never done))

pub returns-in-Some-clause-taken : goal.returns-in-Some-clause-taken
returns-in-Some-clause-taken c =
    let rise = subst (λ (l : List Slot). Rise l) c.self.view_is c.self.invariant.rising in
    let here = ap (λ (w : BucketWork). w.cell) (c.work.ensures ∙ ap (λ (s : SetValue). s.work) c.get-2.ensures) in
    let at = subst (λ (k : Cell). IsPlaceOf c.args.self.now k c.in-Some.place) here c.in-Some.ensures in
    let is = c.index.ensures ∙ ap (λ (l : List Slot). get_or l c.in-Some.place c.index.result.now) c.self.view_is in
    let never = not_done_at c.args.self.now c.args.set.work.cell c.in-Some.place c.index.result.now rise at is (ap not (c.is_none.ensures ∙ ap not c.if-is_none.true)) in
    (λ e. never, λ h. refl)

pub returns-in-Some-clause-of : goal.returns-in-Some-clause-of
returns-in-Some-clause-of c grid of g =
    let pairs = subst (λ (s : SetValue). s.pairs ≡ own_places s.work.grid s.work.cell) c.get.ensures (sym c.pairs.ensures.same ∙ c.pairs.ensures.found) in
    subst (IsOf grid) (sym c.fill.ensures.slots) (filled_of grid c.args.set c.args.self.now pairs of g)

pub returns-in_default-clause-slots : goal.returns-in_default-clause-slots
returns-in_default-clause-slots c =
    let rise = subst (λ (l : List Slot). Rise l) c.self.view_is c.self.invariant.rising in
    let here = ap (λ (w : BucketWork). w.cell) (c.work.ensures ∙ ap (λ (s : SetValue). s.work) c.get-2.ensures) in
    elim c.in_default.branch [
      | in_default-via-in-Some+else-is_none w ↦
          (let at = subst (λ (k : Cell). IsPlaceOf c.args.self.now k w.in-Some.place) here w.in-Some.ensures in
          let is = w.index.ensures ∙ ap (λ (l : List Slot). get_or l w.in-Some.place w.index.result.now) c.self.view_is in
          none_filled c.args.self.now c.args.set w.in-Some.place rise at
          (λ d. ap (λ (s : Slot). is_none s.set) (get_or_default c.args.self.now w.in-Some.place d w.index.result.now at.within ∙ sym is) ∙ ap not (w.is_none.ensures ∙ ap not w.if-is_none.false)))
      | in_default-via-in_default w ↦ absurd (w.in_default.ensures (subst (λ (k : Cell). IsBucketOf c.args.self.now k) (sym here) c.requires.bucket))
    ]
