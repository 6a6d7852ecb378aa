use Rattle.std.proofs.Common.{List, length, take, sym, ap, subst, arith, ◌∙◌}
use Rattle.std.specs.List.{AllPairs, AllZip}
use Rattle.std.proofs.lemmas.List.{take_all}
use Rattle.bim_model.specs.declared.named_model.NamedModel.{NamedModel}
use Rattle.bim_model.specs.Keys.{Subject, subjects_of, IsBelow}
use Rattle.bim_model.proofs.Rising.{subjects_rise}
use Rattle.bucket_grid.specs.ElementPlaces.{IsPlace}
use Rattle.bucket_grid.specs.Subjects.{nobody}
use Rattle.bucket_grid.proofs.Zips.{zip_length}
use Rattle.clash_delta.specs.inner.ElementNumbers.{subjects, subject_of, IsNumberBefore}
use Rattle.clash_delta.proofs.Before.{numbers_more, all_below_next}
use Rattle.clash_delta.proofs.former_numbers.numbers_before.Goals as goal

pub first_not_below-old-requires-clause-below : goal.first_not_below-old-requires-clause-below
first_not_below-old-requires-clause-below c =
    let n = zip_length (IsPlace _) _ _ c.places-count.ensures.placed in
    c.loop-new.invariant.below c.loop-new.new (omega arith) (omega (arith, n, c.loop-new-test.true))

pub loop-new-preserved : goal.loop-new-preserved
loop-new-preserved c =
    let n = zip_length (IsPlace _) _ _ c.places-count.ensures.placed in
    let before = subjects c.args.before.now in
    let after = subjects c.args.after.now in
    let rising = subst (λ (ms : List NamedModel). AllPairs IsBelow (subjects_of ms)) c.models.ensures.same (subjects_rise c.models.result.now c.models.ensures.snapshot) in
    let reached = c.first_not_below-old.ensures.reached in
    record {
      numbers = numbers_more before after c.loop-new.new c.loop-new.numbers.items _ c.number_before.result (omega (arith, n, c.loop-new-test.true)) c.loop-new.invariant.numbers c.number_before.ensures c.in_ok-push.ensures.items;
      within = c.first_not_below-old.ensures.within;
      below = λ k le lt. all_below_next before c.first_not_below-old.result (subject_of c.args.after.now c.loop-new.new) (subject_of c.args.after.now k) reached.below (rising c.loop-new.new k nobody (omega (arith, le)) lt);
    }

pub returns : goal.returns
returns c =
    let n = zip_length (IsPlace _) _ _ c.places-count.ensures.placed in
    subst (λ (l : List Subject). AllZip (IsNumberBefore (subjects c.args.before.now)) l c.loop-new.numbers.items) (take_all c.loop-new.new (subjects c.args.after.now) (omega (arith, n, c.loop-new-test.false))) c.loop-new.invariant.numbers
