-- Decimals whose power of ten isn't negative are whole.
use Rattle.std.proofs.Common.{◌≡◌, ℕ, ℤ, pos, negsuc, ◌*ℤ◌, ◌≤ℤ◌, Bool, List, ap, ◌∙◌, arith}
use Rattle.std.proofs.lemmas.Int.{ints}
use Rattle.bim_text.specs.declared.decimal.Decimal.{Decimal}
use Rattle.bim_text.specs.ScaledNumbers.{Scaled, whole, signed, numerator, denominator, SameValue}
use Rattle.bim_text.specs.NumberSpellings.{written}
use Rattle.bim_text.specs.Decimals.{Reads}
use Rattle.ifc_schema.specs.AttributeWords.{IsWhole}

times_one : (x : ℤ) → x *ℤ pos 1 ≡ x
times_one x = omega (arith, ints)

as_whole : (b : Bool) (m : ℕ) (e : ℤ) (w : Scaled) → pos 0 ≤ℤ e → SameValue (record { number = signed b m; power = e }) w → SameValue (whole (numerator (record { number = signed b m; power = e }))) w
as_whole b m (pos k) w above h = ap (λ (x : ℤ). x *ℤ pos (denominator w)) (times_one (numerator (record { number = signed b m; power = pos k }))) ∙ h
as_whole b m (negsuc k) w above h = absurd (omega (arith, ints, above))

pub is_whole : (bytes : List ℕ) (d : Decimal) → Reads bytes d → pos 0 ≤ℤ d.exp → IsWhole bytes
is_whole bytes d reads above = (
  numerator (record { number = signed d.negative d.digits; power = d.exp }),
  record {
    spelling = reads.spelling;
    read = reads.read;
    value = as_whole d.negative d.digits d.exp (written reads.spelling) above reads.value;
  },
)
