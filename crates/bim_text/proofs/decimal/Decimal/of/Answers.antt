use Rattle.std.proofs.Common.{◌≡◌, ℕ, pos, ◌*◌, ◌^◌, arith, ap, ◌∙◌, subst, sym}
use Rattle.std.proofs.lemmas.Int.{ints}
use Rattle.bim_text.specs.ScaledNumbers.{signed, SameValue}
use Rattle.bim_text.proofs.Powers.{same_value, same_zero}
use Rattle.bim_text.proofs.decimal.Decimal.of.Goals as goal

pub returns : goal.returns
returns c = same_value c.args.negative c.args.digits.significand c.args.digits.zeros _ c.args.power (omega (arith, ints))

pub returns-then-digits-eq0 : goal.returns-then-digits-eq0
returns-then-digits-eq0 c =
    let e : 0 ≡ c.args.digits.significand * 10 ^ c.args.digits.zeros = sym (ap (λ (x : ℕ). x * 10 ^ c.args.digits.zeros) c.if-digits-eq0.true ∙ none (10 ^ c.args.digits.zeros)) in
    subst (λ (x : ℕ). SameValue (record { number = pos 0; power = pos 0 }) (record { number = signed c.args.negative x; power = c.args.power })) e (same_zero c.args.negative (pos 0) c.args.power)
  where
    none : (x : ℕ) → 0 * x ≡ 0
    none x = omega arith
