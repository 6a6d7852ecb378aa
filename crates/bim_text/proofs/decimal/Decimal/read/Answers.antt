use Rattle.std.proofs.Common.{◌≤◌, arith, subst, ℤ, pos, ◌≤ℤ◌, neg_ℤ}
use Rattle.std.proofs.lemmas.Int.{ints}
use Rattle.bim_model.specs.declared.limits.TheConstants.{MOST_UPLOAD}
use Rattle.bim_text.specs.declared.limits.TheConstants.{MOST_EXPONENT}
use Rattle.bim_text.specs.inner.NumberScanning.{parts}
use Rattle.bim_text.proofs.Reading.{if_none, no_whole, no_digits, no_fraction, no_exponent, read_is, power_is, value_is}
use Rattle.bim_text.proofs.decimal.Decimal.read.Goals as goal

pub returns-in_err-whole-clause-none : goal.returns-in_err-whole-clause-none
returns-in_err-whole-clause-none c = if_none _ (no_whole c.args.text.now _ c.sign_end-from.ensures.end c.in_err-whole.ensures.kept)

pub returns-then-whole-from-clause-none : goal.returns-then-whole-from-clause-none
returns-then-whole-from-clause-none c = no_digits c.args.text.now _ _ c.sign_end-from.ensures.end c.in_ok-whole.ensures.end c.if-whole-from.true

pub returns-in_err-fraction-clause-none : goal.returns-in_err-fraction-clause-none
returns-in_err-fraction-clause-none c = if_none _ (no_fraction c.args.text.now _ _ _ c.sign_end-from.ensures.end c.in_ok-whole.ensures.end c.in_ok-whole.ensures.kept c.in_err-fraction.ensures.kept)

pub returns-in_err-exponent-clause-none : goal.returns-in_err-exponent-clause-none
returns-in_err-exponent-clause-none c = if_none _ (no_exponent c.args.text.now _ _ _ c.sign_end-from.ensures.end c.in_ok-whole.ensures.end c.in_ok-fraction.ensures.end c.in_err-exponent.ensures.none)

pub of-requires-clause-bounded : goal.of-requires-clause-bounded
of-requires-clause-bounded c =
    let i = c.in_ok-exponent.ensures in
    (read_is c.args.text.now c.sign_end-from.result c.in_ok-whole.whole.end c.in_ok-fraction.fraction.end c.in_ok-whole.whole.digits c.in_ok-fraction.fraction.digits
    (omega arith) c.sign_end-from.ensures.end c.in_ok-whole.ensures.end c.if-whole-from.false c.in_ok-fraction.ensures.end c.in_ok-whole.ensures.kept c.in_ok-fraction.ensures.kept
    i.is (subst (λ (x : ℤ). neg_ℤ (pos MOST_EXPONENT) ≤ℤ x) i.value i.low) (subst (λ (x : ℤ). x ≤ℤ pos MOST_EXPONENT) i.value i.high)).0.bounded

pub of-requires-clause-stripped : goal.of-requires-clause-stripped
of-requires-clause-stripped c =
    let i = c.in_ok-exponent.ensures in
    (read_is c.args.text.now c.sign_end-from.result c.in_ok-whole.whole.end c.in_ok-fraction.fraction.end c.in_ok-whole.whole.digits c.in_ok-fraction.fraction.digits
    (omega arith) c.sign_end-from.ensures.end c.in_ok-whole.ensures.end c.if-whole-from.false c.in_ok-fraction.ensures.end c.in_ok-whole.ensures.kept c.in_ok-fraction.ensures.kept
    i.is (subst (λ (x : ℤ). neg_ℤ (pos MOST_EXPONENT) ≤ℤ x) i.value i.low) (subst (λ (x : ℤ). x ≤ℤ pos MOST_EXPONENT) i.value i.high)).0.stripped

pub returns-clause-value : goal.returns-clause-value
returns-clause-value c =
    let i = c.in_ok-exponent.ensures in
    let bs = c.args.text.now in
    let f = c.in_ok-fraction.fraction in
    let r = read_is c.args.text.now c.sign_end-from.result c.in_ok-whole.whole.end c.in_ok-fraction.fraction.end c.in_ok-whole.whole.digits c.in_ok-fraction.fraction.digits
    (omega arith) c.sign_end-from.ensures.end c.in_ok-whole.ensures.end c.if-whole-from.false c.in_ok-fraction.ensures.end c.in_ok-whole.ensures.kept c.in_ok-fraction.ensures.kept
    i.is (subst (λ (x : ℤ). neg_ℤ (pos MOST_EXPONENT) ≤ℤ x) i.value i.low) (subst (λ (x : ℤ). x ≤ℤ pos MOST_EXPONENT) i.value i.high) in
    let p = power_is bs c.sign_end-from.result c.in_ok-whole.whole.end f.end f.count c.in_ok-exponent.exponent c.sign_end-from.ensures.end c.in_ok-whole.ensures.end c.in_ok-fraction.ensures.end i.value c.in_ok-fraction.ensures.count in
    let few : f.count ≤ MOST_UPLOAD = omega (arith, c.in_ok-fraction.ensures.few, c.in_ok-fraction.ensures.within) in
    record {
      spelling = parts bs;
      read = r.1;
      value = value_is bs c.of.result f.digits c.is_minus_at.result _ c.of.ensures c.is_minus_at.ensures r.0 (omega (arith, ints, p, few, i.low, i.high));
    }
