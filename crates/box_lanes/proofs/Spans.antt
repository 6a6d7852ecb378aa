-- Tests of the gap of two spans.
use Rattle.std.proofs.Common.{◌≡◌, ℕ, ◌<◌, ◌^◌, ℤ, pos, ◌-ℤ◌, ◌≤ℤ◌, Bool, leb, to_z, of_z, ap₂, ◌∙◌, sym, subst, arith}
use Rattle.std.proofs.lemmas.Int.{ints, to_z-of_z}
use Rattle.std.specs.Int.{w32, w64}
use lib.Signed.{le_z, mag}
use mir.Val.{SFits}
use Rattle.bim_model.specs.Gaps.{gap}

-- sides that were read from a box
pub read : (l h ol oh : ℤ) (g : ℕ) {r : Bool} → SFits w32 l → SFits w32 h → SFits w32 ol → SFits w32 oh
    → r ≡ leb (gap (to_z w32 (of_z w32 l)) (to_z w32 (of_z w32 h)) (to_z w32 (of_z w32 ol)) (to_z w32 (of_z w32 oh))) g → r ≡ leb (gap l h ol oh) g
read l h ol oh g L H OL OH e = rw (to_z-of_z w32 l L, to_z-of_z w32 h H, to_z-of_z w32 ol OL, to_z-of_z w32 oh OH) at e

-- the second difference decides, where the first is at most g
pub other_side : (l h ol oh : ℤ) (g : ℕ) (below grow : ℤ) → (l -ℤ oh) ≤ℤ pos g → below ≡ ol -ℤ h → grow ≡ pos g → le_z below grow ≡ leb (gap l h ol oh) g
other_side l h ol oh g below grow m b e = grind (arith, ints)

-- a difference of two numbers of 32 bits in 64 bits
pub difference : (a b x y : ℤ) → SFits w32 a → SFits w32 b → x ≡ to_z w32 (of_z w32 a) → y ≡ to_z w32 (of_z w32 b) → to_z w64 (of_z w64 (to_z w64 (of_z w64 x) -ℤ to_z w64 (of_z w64 y))) ≡ a -ℤ b
difference a b x y A B p q =
    let p' : x ≡ a = p ∙ to_z-of_z w32 a A in
    let q' : y ≡ b = q ∙ to_z-of_z w32 b B in
    let X : SFits w64 x = record { sfits = subst (λ z. mag z < 2 ^ 63) (sym p') (omega (arith, A.sfits)) } in
    let Y : SFits w64 y = record { sfits = subst (λ z. mag z < 2 ^ 63) (sym q') (omega (arith, B.sfits)) } in
    rw (to_z-of_z w64 x X, to_z-of_z w64 y Y) (ap₂ (λ u v. to_z w64 (of_z w64 (u -ℤ v))) p' q' ∙ to_z-of_z w64 (a -ℤ b) (record { sfits = grind (arith, ints, A.sfits, B.sfits) }))
