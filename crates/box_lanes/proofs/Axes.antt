-- A test of three axes, one after the other.
use Rattle.std.proofs.Common.{◌≡◌, Bool, true, false, ◌&&◌, ap, ap₂, ◌∙◌, sym}

-- the test of the third axis decides
pub third : (x y z : Bool) {r : Bool} → x ≡ true → y ≡ true → r ≡ z → r ≡ ((x && y) && z)
third x y z p q e = e ∙ ap₂ (λ a b. (a && b) && z) (sym p) (sym q)

-- the second does
pub second : (x y z : Bool) {r : Bool} → x ≡ true → y ≡ false → r ≡ false → r ≡ ((x && y) && z)
second x y z p q e = e ∙ ap₂ (λ a b. (a && b) && z) (sym p) (sym q)

-- the first does
pub first : (x y z : Bool) {r : Bool} → x ≡ false → r ≡ false → r ≡ ((x && y) && z)
first x y z p e = e ∙ ap (λ a. (a && y) && z) (sym p)
