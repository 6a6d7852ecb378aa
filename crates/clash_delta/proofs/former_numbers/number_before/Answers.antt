use Rattle.std.proofs.Common.{List, length, true≢false, sym, ap, subst, arith, ◌∙◌}
use Rattle.std.specs.List.{AllPairs}
use Rattle.bim_model.specs.declared.named_model.NamedModel.{NamedModel}
use Rattle.bim_model.specs.Keys.{subjects_of, IsBelow}
use Rattle.bim_model.proofs.Rising.{subjects_rise}
use Rattle.bucket_grid.specs.ElementPlaces.{IsPlace}
use Rattle.bucket_grid.proofs.Zips.{zip_length}
use Rattle.clash_delta.specs.inner.ElementNumbers.{subjects, subject_of}
use Rattle.clash_delta.proofs.Keys.{none_before}
use Rattle.clash_delta.proofs.former_numbers.number_before.Goals as goal
use Rattle.clash_delta.proofs.former_numbers.number_before.Goals.{else-old-places-via-then-old-places+else-is_same, else-old-places-via-else-old-places}

pub returns-then-is_same : goal.returns-then-is_same
returns-then-is_same c =
    let n = zip_length (IsPlace _) _ _ c.places.ensures.placed in
    record { within = omega (arith, n, c.if-old-places.true); same = c.is_same.ensures.0 c.if-is_same.true }

pub returns-else-old-places : goal.returns-else-old-places
returns-else-old-places c =
    let n = zip_length (IsPlace _) _ _ c.places.ensures.placed in
    let rising = subst (λ (ms : List NamedModel). AllPairs IsBelow (subjects_of ms)) c.models.ensures.same (subjects_rise c.models.result.now c.models.ensures.snapshot) in
    none_before (subjects c.args.before.now) rising (subject_of c.args.after.now c.args.new) c.args.old c.requires.old
    (elim c.else-old-places.branch [
      | else-old-places-via-then-old-places+else-is_same w ↦ (λ h same. true≢false (sym (w.is_same.ensures.1 same) ∙ w.if-is_same.false))
      | else-old-places-via-else-old-places w ↦ (λ h same. absurd (omega (arith, h, n, w.if-old-places.false)))
    ])
