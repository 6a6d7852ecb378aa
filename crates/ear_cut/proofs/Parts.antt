-- Vectors with equal parts, and tests of several parts.
use Rattle.std.proofs.Common.{◌≡◌, ◌∙◌, ap, ℤ, Bool, true, false, not, ◌&&◌, refl}
use Rattle.exact_arith.specs.Space.{Vector}

pub same_vector : (a b c d e f : ℤ) → a ≡ d → b ≡ e → c ≡ f → ◌≡◌ {A = Vector} (record { x = a; y = b; z = c }) (record { x = d; y = e; z = f })
same_vector a b c d e f h k l =
    ap (λ (t : ℤ). let v : Vector = record { x = t; y = b; z = c } in v) h
    ∙ (ap (λ (t : ℤ). let v : Vector = record { x = d; y = t; z = c } in v) k ∙ ap (λ (t : ℤ). let v : Vector = record { x = d; y = e; z = t } in v) l)

-- a test of several parts that fails, or goes on, at the first
pub fails : (x r : Bool) → x ≡ true → false ≡ (not x && r)
fails true r h = refl
fails false r h = absurd (cc h)

pub goes_on : (x r s : Bool) → x ≡ false → s ≡ r → s ≡ (not x && r)
goes_on true r s h e = absurd (cc h)
goes_on false r s h e = e
