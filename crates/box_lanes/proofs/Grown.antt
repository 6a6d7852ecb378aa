-- A box grown on each side, and the gap to it.
use Rattle.std.proofs.Common.{◌≡◌, ℕ, max, Bool, true, false, cond, ap, ℤ, pos, ◌+ℤ◌, ◌-ℤ◌, ◌&&◌, leb, sym, ap₂, ◌∙◌, arith, to_z, of_z}
use Rattle.std.proofs.lemmas.Int.{ints, to_z-of_z}
use Rattle.std.proofs.lemmas.Bool.Decides.{nat_tests}
use Rattle.std.specs.Int.{saturate_signed, w32}
use borrow.Author.Differences.{up}
use lib.Signed.{le_z, lt_z}
use mir.Val.{SFits}
use Rattle.box_lanes.specs.BoxPlaces.{is_close_from}

-- the span begins at most g above ph
below : (l ph rh : ℤ) (g : ℕ) → SFits w32 l → SFits w32 ph → rh ≡ saturate_signed w32 (ph +ℤ pos g) → le_z l rh ≡ leb (up (l -ℤ ph)) g
below l ph rh g L P e = grind (arith, ints)

-- the span ends at most g below pl
above : (h pl rl : ℤ) (g : ℕ) → SFits w32 h → SFits w32 pl → rl ≡ saturate_signed w32 (pl -ℤ pos g) → le_z rl h ≡ leb (up (pl -ℤ h)) g
above h pl rl g H P e = grind (arith, ints)

both : (a b g : ℕ) → leb (max a b) g ≡ (leb a g && leb b g)
both a b g = grind (arith, nat_tests)

-- the span begins at most g above ph, as far as numbers go
begun : (l ph rh : ℤ) (g : ℕ) → SFits w32 l → SFits w32 ph → rh ≡ saturate_signed w32 (ph +ℤ pos g) → le_z l rh ≡ le_z l (ph +ℤ pos g)
begun l ph rh g L P e = grind (arith, ints)

by_case : (b : Bool) (l h pl ph rl rh s : ℤ) (g : ℕ) → SFits w32 l → SFits w32 h → SFits w32 pl → SFits w32 ph
    → rl ≡ cond b s (saturate_signed w32 (pl -ℤ pos g)) → rh ≡ saturate_signed w32 (ph +ℤ pos g)
    → (le_z l rh && le_z rl (cond b l h)) ≡ cond b (le_z l (ph +ℤ pos g) && le_z s l) (leb (max (up (l -ℤ ph)) (up (pl -ℤ h))) g)
by_case true l h pl ph rl rh s g L H PL PH e f = ap₂ (λ a b. a && b) (begun l ph rh g L PH f) (ap (λ r. le_z r l) e)
by_case false l h pl ph rl rh s g L H PL PH e f = ap₂ (λ a b. a && b) (below l ph rh g L PH f) (above h pl rl g H PL e) ∙ sym (both (up (l -ℤ ph)) (up (pl -ℤ h)) g)

-- a span of an axis is reached just where it is close to the probe's, from the start on
pub axis : (l h pl ph rl rh s : ℤ) (g : ℕ) → SFits w32 l → SFits w32 h → SFits w32 pl → SFits w32 ph → SFits w32 rl → SFits w32 rh → SFits w32 s
    → rl ≡ cond (lt_z (to_z w32 (of_z w32 pl)) (to_z w32 (of_z w32 s))) (to_z w32 (of_z w32 s)) (saturate_signed w32 (to_z w32 (of_z w32 pl) -ℤ pos g)) → rh ≡ saturate_signed w32 (to_z w32 (of_z w32 ph) +ℤ pos g)
    → (le_z l (to_z w32 (of_z w32 rh)) && le_z (to_z w32 (of_z w32 rl)) (cond (lt_z (to_z w32 (of_z w32 pl)) (to_z w32 (of_z w32 s))) l h)) ≡ is_close_from s g l h pl ph
axis l h pl ph rl rh s g L H PL PH RL RH S e f =
    let e2 : rl ≡ cond (lt_z pl s) s (saturate_signed w32 (pl -ℤ pos g)) = rw (to_z-of_z w32 pl PL, to_z-of_z w32 s S) at e in
    let f2 : rh ≡ saturate_signed w32 (ph +ℤ pos g) = rw (to_z-of_z w32 ph PH) at f in
    rw (to_z-of_z w32 rl RL, to_z-of_z w32 rh RH, to_z-of_z w32 pl PL, to_z-of_z w32 s S) (by_case (lt_z pl s) l h pl ph rl rh s g L H PL PH e2 f2)
