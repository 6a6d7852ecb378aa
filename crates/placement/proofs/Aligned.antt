-- A vector lies along one axis at most.
use Rattle.std.proofs.Common.{◌≡◌, ◌≢◌, ℕ, zero, suc, ◌<◌, ◌⊎◌, inl, inr, Bool, true, false, pos, refl, sym, ap, ◌∙◌, subst, arith, List, Option, Some, None}
use Rattle.p21_values.specs.declared.value.Value21.{Value21}
use Rattle.p21_values.specs.declared.value.Instance.{Instance}
use Rattle.p21_values.specs.Values.{reference_of, is_absent}
use Rattle.placement.specs.declared.axis.Axis.{Axis}
use Rattle.placement.specs.declared.axes.Axes.{Axes}
use Rattle.placement.specs.declared.direction.Direction.{Direction}
use Rattle.placement.specs.declared.direction.Vector.{Vector}
use Rattle.placement.specs.Frames.{sign_of, along}
use Rattle.placement.specs.Directions.{unit, LiesAlong, GiveAxes, Directs, IsDirection, without, first_direction, second_direction}
use Rattle.placement.proofs.Components.{along_own, along_other}

unit_at : (a b : Axis) → unit a ≡ unit b → (k : ℕ) → k < 3 → along a k ≡ along b k
unit_at a b e zero h = ap (λ (v : Vector). v.x) e
unit_at a b e (suc zero) h = ap (λ (v : Vector). v.y) e
unit_at a b e (suc (suc zero)) h = ap (λ (v : Vector). v.z) e
unit_at a b e (suc (suc (suc k))) h = absurd (omega (arith, h))

sign_some : (m : Bool) → sign_of (record { direction = 0; negative = m }) ≡ pos 0 → ⊥
sign_some true e = cc
sign_some false e = cc

sign_same : (m n : Bool) → sign_of (record { direction = 0; negative = m }) ≡ sign_of (record { direction = 0; negative = n }) → m ≡ n
sign_same true true e = refl
sign_same true false e = cc
sign_same false true e = cc
sign_same false false e = refl

equal_or : (a b : ℕ) → (a ≡ b) ⊎ (a ≢ b)
equal_or a b = grind arith

same_axis : (a b : Axis) → a.direction ≡ b.direction → a.negative ≡ b.negative → a ≡ b
same_axis a b e f = let r : Axis = record { direction = b.direction; negative = b.negative } in let h : record { direction = a.direction; negative = a.negative } ≡ r = rw (e, f) refl in h

unit_same : (a b : Axis) → a.direction < 3 → unit a ≡ unit b → a ≡ b
unit_same a b h e = elim (equal_or a.direction b.direction) [
  | inl s ↦ same_axis a b s (sign_same a.negative b.negative (sym (along_own a a.direction refl) ∙ unit_at a b e a.direction h ∙ along_own b a.direction (sym s)))
  | inr n ↦ absurd (sign_some a.negative (sym (along_own a a.direction refl) ∙ unit_at a b e a.direction h ∙ along_other b a.direction (λ s. n (sym s))))
]

pub one_axis : (v : Vector) (a b : Axis) → LiesAlong v a → LiesAlong v b → a ≡ b
one_axis v a b g h = unit_same a b g.0 (sym g.1 ∙ h.1)

-- where no x axis is left across z, there are no axes
pub no_axes : (axis reference : Option Direction) (z : Axis) (v w u : Vector) → v ≡ first_direction axis → LiesAlong v z → w ≡ second_direction z reference → u ≡ without z w
    → ((x : Axis) → LiesAlong u x → ⊥) → (axes : Axes) → GiveAxes axis reference axes → ⊥
no_axes axis reference z v w u e l f g none axes h =
    let same : axes.z ≡ z = one_axis v axes.z z (subst (λ (t : Vector). LiesAlong t axes.z) (sym e) h.z) l in
    let here = subst (λ (t : Axis). LiesAlong (without t (second_direction t reference)) axes.x) same h.x in
    none axes.x (subst (λ (t : Vector). LiesAlong t axes.x) (sym (g ∙ ap (without z) f)) here)

some_same : (m n : ℕ) → Some m ≡ Some n → m ≡ n
some_same m n e = cc

-- a value that names what is no direction gives none
pub no_direction : (world : List Instance) (v : Value21) (to : ℕ) → is_absent v ≡ false → reference_of v ≡ Some to → ((d : Direction) → IsDirection world to d → ⊥) → (d : Option Direction) → Directs world v d → ⊥
no_direction world v to a e none None h = absurd (let k : false ≡ true = sym a ∙ h in cc)
no_direction world v to a e none (Some d) h = none d (subst (λ (t : ℕ). IsDirection world t d) (some_same h.0 to (sym h.1 ∙ e)) h.2)
