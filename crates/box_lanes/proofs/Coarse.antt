-- Boxes in steps of 256: those that meet do so in steps too.
use Rattle.std.proofs.Common.{rules, ◌≡◌, ℕ, ◌+◌, ◌*◌, ◌/◌, ◌%◌, ◌^◌, ◌<◌, ◌≤◌, ℤ, pos, negsuc, ◌≤ℤ◌, int_le, Bool, true, false, true≢false, ◌&&◌, cond, List, [], ◌∷◌, map, refl, sym, ap, ap₂, ◌∙◌, arith}
use Rattle.std.proofs.lemmas.Int.{ints}
use Rattle.std.specs.List.{All}
use Rattle.std.proofs.lemmas.List.Elements.{All-nil, All-cons}
use Rattle.std.proofs.lemmas.Nat.{pow_pos, le-div}
use Rattle.std.proofs.Math.Nat.{div-mul-le_self, mod-le}
use lib.Lanes.{mask_l}
use mir.Syntax.{w16, w32}
use mir.Val.{SFits, to_z, of_z}
use Rattle.bim_model.specs.declared.geometry.Extent.{Extent}
use Rattle.box_lanes.specs.declared.reach.Reach.{Reach}
use Rattle.box_lanes.specs.CoarseBoxes.{meets, coarse, may_meet}
use Rattle.box_lanes.proofs.Vectors.{Fit}
use Rattle.box_lanes.proofs.Eights.{read_sides}

-- ---- coordinates
coarse_rises : (x y : ℤ) → x ≤ℤ y → coarse x ≤ℤ coarse y
coarse_rises (pos a) (pos b) h = omega (arith, ints)
coarse_rises (pos a) (negsuc b) h = absurd (omega (arith, ints))
coarse_rises (negsuc a) (pos b) h = omega (arith, ints)
coarse_rises (negsuc a) (negsuc b) h = omega (arith, ints)

le_coarse : (x y : ℤ) → int_le x y ≡ true → int_le (coarse x) (coarse y) ≡ true
le_coarse x y h =
    let rises : coarse x ≤ℤ coarse y = coarse_rises x y (grind (arith, ints)) in
    grind (arith, ints, rises)

pub coarse_fits : (x : ℤ) → SFits w16 (coarse x)
coarse_fits (pos a) = search rules
coarse_fits (negsuc a) = search rules

-- ---- boxes
both_of : (a b c d : Bool) → (a ≡ true → c ≡ true) → (b ≡ true → d ≡ true) → (a && b) ≡ true → (c && d) ≡ true
both_of true true c d f g e = ap₂ (λ x y. x && y) (f refl) (g refl)
both_of true false c d f g e = absurd (true≢false (sym e))
both_of false b c d f g e = absurd (true≢false (sym e))

far_coarse : (later : Bool) (x low high : ℤ) → int_le x (cond later low high) ≡ true → int_le (coarse x) (cond later (coarse low) (coarse high)) ≡ true
far_coarse true x low high = le_coarse x low
far_coarse false x low high = le_coarse x high

may_meet_too : (r : Reach) (b : Extent) → meets r b ≡ true → may_meet r b ≡ true
may_meet_too r b =
    both_of _ _ _ _
    (both_of _ _ _ _
    (both_of _ _ _ _ (le_coarse b.low.x r.high.x) (far_coarse r.later_x r.low.x b.low.x b.high.x))
    (both_of _ _ _ _ (le_coarse b.low.y r.high.y) (far_coarse r.later_y r.low.y b.low.y b.high.y)))
    (both_of _ _ _ _ (le_coarse b.low.z r.high.z) (far_coarse r.later_z r.low.z b.low.z b.high.z))

-- ---- bits
abbrev digit : Bool → ℕ
digit b = cond b 1 0

unset : (x y : Bool) → (x ≡ true → y ≡ true) → digit y ≡ 0 → digit x ≡ 0
unset false y i e = refl
unset true true i e = e
unset true false i e = absurd (true≢false (sym (i refl)))

none : {A : Type 0} (p q : A → Bool) → ((a : A) → p a ≡ true → q a ≡ true) → (bs : List A) → mask_l (map q bs) ≡ 0 → mask_l (map p bs) ≡ 0
none p q i [] e = refl
none p q i (b ∷ bs) e =
    let here : digit (p b) ≡ 0 = unset (p b) (q b) (i b) (omega (arith, e)) in
    let there : mask_l (map p bs) ≡ 0 = none p q i bs (omega (arith, e)) in
    ap₂ (λ a m. a + 2 * m) here there

-- where none meets in steps, none meets
pub none_meets : (r : Reach) (bs : List Extent) → mask_l (map (may_meet r) bs) ≡ 0 → mask_l (map (meets r) bs) ≡ 0
none_meets r bs e = none (meets r) (may_meet r) (may_meet_too r) bs e

pub all_fit : (side : Extent → ℤ) (bs : List Extent) → All (Fit true (λ b. coarse (side b))) bs
all_fit side [] = All-nil (Fit true (λ b. coarse (side b)))
all_fit side (b ∷ bs) = All-cons (Fit true (λ b. coarse (side b))) b bs (coarse_fits (side b)) (all_fit side bs)

-- bits that are shifted out of sight leave none of a part of them
pub shifted_out : (n a b : ℕ) → n / 2 ^ a ≡ 0 → n % 2 ^ b / 2 ^ a ≡ 0
shifted_out n a b e =
    let less : n % 2 ^ b / 2 ^ a ≤ n / 2 ^ a = div_mono (n % 2 ^ b) n (2 ^ a) (pow_pos a) (mod-le n (2 ^ b)) in
    omega (arith, less, e)
  where
    div_mono : (x y k : ℕ) → 0 < k → x ≤ y → x / k ≤ y / k
    div_mono x y k some h = le-div (x / k) y k some (omega (arith, div-mul-le_self x k, h))

-- sides in steps, of a list of boxes
pub coarse_sides_are : (side : Extent → ℤ) (bs : List Extent) → All (λ b. SFits w32 (side b)) bs → {xs : List ℤ} → xs ≡ map coarse (map (λ b. to_z w32 (of_z w32 (side b))) bs) → xs ≡ map (λ b. coarse (side b)) bs
coarse_sides_are side bs fits e = e ∙ ap (map coarse) (read_sides side bs fits) ∙ fused bs
  where
    fused : (bs : List Extent) → map coarse (map side bs) ≡ map (λ b. coarse (side b)) bs
    fused [] = refl
    fused (b ∷ bs) = ap (λ l. coarse (side b) ∷ l) (fused bs)
