-- Tests of several parts, of which the first that holds decides.
use Rattle.std.proofs.Common.{◌≡◌, refl, Bool, true, false, ◌&&◌, ◌||◌}

pub decides : (x r : Bool) → x ≡ true → true ≡ (x || r)
decides true r h = refl
decides false r h = absurd (cc h)

pub goes_on : (x r s : Bool) → x ≡ false → s ≡ r → s ≡ (x || r)
goes_on true r s h e = absurd (cc h)
goes_on false r s h e = e

pub both : (x y r : Bool) → x ≡ true → r ≡ y → r ≡ (x && y)
both true y r h e = e
both false y r h e = absurd (cc h)

pub not_both : (x y r : Bool) → x ≡ false → r ≡ x → r ≡ (x && y)
not_both true y r h e = absurd (cc h)
not_both false y r h e = e
