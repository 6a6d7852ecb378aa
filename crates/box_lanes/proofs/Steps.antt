-- A coordinate in steps of 256 by a shift, a clamp and a cast of lanes.
use Rattle.std.proofs.Common.{rules, ◌≡◌, ℕ, ℤ, pos, negsuc, Bool, true, false, cond, refl, sym, ap, ap₂, subst, ◌∙◌, arith, to_z, of_z}
use Rattle.std.proofs.lemmas.Int.{ints, clamps, to_z-of_z}
use Rattle.std.specs.Int.{saturate_signed}
use lib.Lanes.{top}
use lib.Signed.{lt_z, shr_z}
use mir.Syntax.{w16, w32}
use mir.Val.{SFits}
use Rattle.box_lanes.specs.CoarseBoxes.{coarse}
use Rattle.box_lanes.proofs.Coarse.{coarse_fits}

-- the lane of the greater and of the lesser of two numbers
abbrev chosen : ℤ → ℤ → ℕ → ℕ → ℕ
chosen x y a b = cond (top 31 (cond (lt_z x y) 4294967295 0)) a b

abbrev shifted : ℤ → ℕ
shifted a = of_z w32 (shr_z (to_z w32 (of_z w32 a)) 256)

abbrev raised : ℤ → ℤ → ℕ
raised a l = chosen (to_z w32 (shifted a)) (to_z w32 (of_z w32 l)) (of_z w32 l) (shifted a)

abbrev pub clamped : ℤ → ℤ → ℤ → ℤ
clamped a l g = to_z w32 (chosen (to_z w32 (raised a l)) (to_z w32 (of_z w32 g)) (raised a l) (of_z w32 g))

-- what is chosen of two lanes is the lane of what is chosen
choice : (b : Bool) (x y : ℤ) → cond (top 31 (cond b 4294967295 0)) (of_z w32 x) (of_z w32 y) ≡ of_z w32 (cond b x y)
choice true x y = refl
choice false x y = refl

fits_too : (b : Bool) (x y : ℤ) → SFits w32 x → SFits w32 y → SFits w32 (cond b x y)
fits_too true x y X Y = X
fits_too false x y X Y = Y

steps_fit : (a : ℤ) → SFits w32 a → SFits w32 (shr_z a 256)
steps_fit a A = grind (arith, ints)

in_between : (s : ℤ) → cond (lt_z (cond (lt_z s (negsuc 32767)) (negsuc 32767) s) (pos 32767)) (cond (lt_z s (negsuc 32767)) (negsuc 32767) s) (pos 32767) ≡ saturate_signed w16 s
in_between s = grind (arith, ints, clamps)

chosen_is : (x y p q : ℤ) → SFits w32 x → SFits w32 y → chosen (to_z w32 (of_z w32 x)) (to_z w32 (of_z w32 y)) (of_z w32 p) (of_z w32 q) ≡ of_z w32 (cond (lt_z x y) p q)
chosen_is x y p q X Y = rw (to_z-of_z w32 x X, to_z-of_z w32 y Y) (choice (lt_z x y) p q)

raised_is : (a l : ℤ) → SFits w32 a → SFits w32 l → raised a l ≡ of_z w32 (cond (lt_z (shr_z a 256) l) l (shr_z a 256))
raised_is a l A L = rw (to_z-of_z w32 a A) (chosen_is (shr_z a 256) l l (shr_z a 256) (steps_fit a A) L)

clamped_by : (a l g : ℤ) → SFits w32 a → SFits w32 l → SFits w32 g
    → clamped a l g ≡ cond (lt_z (cond (lt_z (shr_z a 256) l) l (shr_z a 256)) g) (cond (lt_z (shr_z a 256) l) l (shr_z a 256)) g
clamped_by a l g A L G =
    let m = cond (lt_z (shr_z a 256) l) l (shr_z a 256) in
    let M : SFits w32 m = fits_too (lt_z (shr_z a 256) l) l (shr_z a 256) L (steps_fit a A) in
    ap (λ r. to_z w32 (chosen (to_z w32 r) (to_z w32 (of_z w32 g)) r (of_z w32 g))) (raised_is a l A L)
    ∙ ap (to_z w32) (chosen_is m g m g M G)
    ∙ to_z-of_z w32 (cond (lt_z m g) m g) (fits_too (lt_z m g) m g M G)

clamped_is : (a l g : ℤ) → SFits w32 a → l ≡ negsuc 32767 → g ≡ pos 32767 → clamped a l g ≡ coarse a
clamped_is a l g A e f = ap₂ (clamped a) e f ∙ clamped_by a (negsuc 32767) (pos 32767) A (search rules) (search rules) ∙ in_between (shr_z a 256)

-- the lane fits 16 bits, and is the coordinate in steps
pub step_fits : (a l g : ℤ) → SFits w32 a → l ≡ negsuc 32767 → g ≡ pos 32767 → SFits w16 (clamped a l g)
step_fits a l g A e f = subst (SFits w16) (sym (clamped_is a l g A e f)) (coarse_fits a)

pub step_is : (a l g : ℤ) → SFits w32 a → l ≡ negsuc 32767 → g ≡ pos 32767 → to_z w16 (of_z w16 (clamped a l g)) ≡ coarse a
step_is a l g A e f = ap (λ x. to_z w16 (of_z w16 x)) (clamped_is a l g A e f) ∙ to_z-of_z w16 (coarse a) (coarse_fits a)
