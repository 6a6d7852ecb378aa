-- Bits of a part of a list, and the places in a part of it.
use Rattle.std.proofs.Common.{◌≡◌, ℕ, zero, suc, ◌+◌, ◌-◌, ◌*◌, ◌/◌, ◌%◌, ◌^◌, ◌<◌, ◌≤◌, Bool, true, false, cond, List, [], ◌∷◌, ◌++◌, map, length, take, drop, refl, sym, ap, ap₂, ◌∙◌, arith, append-nil}
use Rattle.std.proofs.Math.Nat.{pow-suc, mod-lt, mod-one, zero-mod, zero-div, mul_assoc}
use Rattle.std.proofs.lemmas.Nat.{pow_pos}
use Rattle.std.proofs.Math.Arith.{digits_mod}
use Rattle.std.proofs.Math.Seq.{take-add}
use Rattle.std.proofs.lemmas.Nat.{div-add-mod'}
use Rattle.std.proofs.lemmas.List.{length-take-le, drop-take, drop-drop, length-drop, append_cancel_left, take_all}
use Rattle.std.proofs.lemmas.List.{drop-map}
use lib.Pow.{shr-shr}
use lib.Lanes.{mask_l}
use Rattle.box_lanes.specs.BoxPlaces.{places_from}
pub use Rattle.box_lanes.specs.BoxPlaces.{part}
use Rattle.box_lanes.proofs.Places.{places-append, Next}

split : (c x p : ℕ) → 0 < p → c ≤ 1 → (c + 2 * x) % (p * 2) ≡ c + 2 * (x % p)
split c x p some small =
    let left : x % p < p = mod-lt x some in
    let parts : x / p * p + x % p ≡ x = div-add-mod' x p in
    let twice : x / p * p * 2 ≡ x / p * (p * 2) = mul_assoc (x / p) p 2 in
    let whole : c + 2 * x ≡ x / p * (p * 2) + (c + 2 * (x % p)) = omega arith in
    let below : c + 2 * (x % p) < p * 2 = omega arith in
    ap (λ n. n % (p * 2)) whole ∙ digits_mod (x / p) below

bit : (b : Bool) → cond b 1 0 ≤ 1
bit true = omega arith
bit false = omega arith

-- the bits of the first n
pub mask_take : (bs : List Bool) (n : ℕ) → mask_l bs % 2 ^ n ≡ mask_l (take n bs)
mask_take [] zero = refl
mask_take [] (suc n) = zero-mod (2 ^ suc n)
mask_take (b ∷ bs) zero = mod-one (mask_l (b ∷ bs))
mask_take (b ∷ bs) (suc n) =
    ap (λ m. (cond b 1 0 + 2 * mask_l bs) % m) (pow-suc 2 n) ∙ split (cond b 1 0) (mask_l bs) (2 ^ n) (pow_pos n) (bit b) ∙ ap (λ m. cond b 1 0 + 2 * m) (mask_take bs n)

-- the bits after the first k
mask_drop : (bs : List Bool) (k : ℕ) → mask_l bs / 2 ^ k ≡ mask_l (drop k bs)
mask_drop [] zero = refl
mask_drop [] (suc k) = zero-div (2 ^ suc k)
mask_drop (b ∷ bs) zero = omega arith
mask_drop (b ∷ bs) (suc k) =
    let half : (cond b 1 0 + 2 * mask_l bs) / 2 ^ 1 ≡ mask_l bs = omega (arith, bit b) in
    let one : suc k ≡ 1 + k = omega arith in
    ap (λ m. mask_l (b ∷ bs) / 2 ^ m) one ∙ sym (shr-shr (mask_l (b ∷ bs)) 1 k) ∙ ap (λ m. m / 2 ^ k) half ∙ mask_drop bs k

-- a part of a part of a list
part_of : {A : Type 0} (xs : List A) (at from end : ℕ) → at ≤ from → from ≤ end → drop (from - at) (take (end - at) (drop at xs)) ≡ take (end - from) (drop from xs)
part_of xs at from end h k =
    let parts : from - at + (end - from) ≡ end - at = omega arith in
    let there : at + (from - at) ≡ from = omega arith in
    ap (λ n. drop (from - at) (take n (drop at xs))) (sym parts) ∙ drop-take (from - at) (end - from) (drop at xs)
    ∙ ap (take (end - from)) (drop-drop (from - at) at xs ∙ ap (λ n. drop n xs) there)

-- the bits of those from one place up to another, of the bits of a block
pub bits_of : {A : Type 0} (p : A → Bool) (xs : List A) (at from end whole : ℕ) → at ≤ from → from ≤ end → whole % 2 ^ (end - at) ≡ mask_l (map p (take (end - at) (drop at xs)))
    → whole % 2 ^ (end - at) / 2 ^ (from - at) ≡ mask_l (map p (take (end - from) (drop from xs)))
bits_of p xs at from end whole h k e =
    ap (λ n. n / 2 ^ (from - at)) e ∙ mask_drop (map p (take (end - at) (drop at xs))) (from - at)
    ∙ ap mask_l (drop-map p (from - at) (take (end - at) (drop at xs))) ∙ ap (λ l. mask_l (map p l)) (part_of xs at from end h k)

module _ {A : Type 0} (p : A → Bool) where
  -- one part and the next
  pub part_more : (xs : List A) (a b c : ℕ) → a ≤ b → b ≤ c → c ≤ length xs → part p xs a c ≡ part p xs a b ++ part p xs b c
  part_more xs a b c h k l =
      let parts : b - a + (c - b) ≡ c - a = omega arith in
      let there : a + (b - a) ≡ b = omega arith in
      let front : length (take (b - a) (drop a xs)) ≡ b - a = length-take-le (b - a) (drop a xs) (omega (arith, length-drop a xs)) in
      let shift : a + length (take (b - a) (drop a xs)) ≡ b = omega (arith, front) in
      ap (λ n. places_from a p (take n (drop a xs))) (sym parts) ∙ ap (places_from a p) (take-add (b - a) (c - b) (drop a xs))
      ∙ places-append p a (take (b - a) (drop a xs)) (take (c - b) (drop (b - a) (drop a xs)))
      ∙ ap (λ l. part p xs a b ++ l) (ap₂ (λ n m. places_from n p (take (c - b) m)) shift (drop-drop (b - a) a xs ∙ ap (λ n. drop n xs) there))

  -- all from one place on
  pub part_all : (xs : List A) (a c : ℕ) → length xs ≤ c → part p xs a c ≡ places_from a p (drop a xs)
  part_all xs a c h = ap (places_from a p) (take_all (c - a) (drop a xs) (omega (arith, length-drop a xs)))

  -- no place yet
  pub part_none : (xs : List A) (a c : ℕ) → c ≤ a → part p xs a c ≡ []
  part_none xs a c h =
      let none : c - a ≡ 0 = omega arith in
      ap (λ n. places_from a p (take n (drop a xs))) none

  whole_part : (xs : List A) (place end : ℕ) → place ≤ end → end ≤ length xs → places_from 0 p (take end xs) ≡ places_from 0 p (take place xs) ++ part p xs place end
  whole_part xs place end h k =
      let parts : place + (end - place) ≡ end = omega arith in
      let front : 0 + length (take place xs) ≡ place = omega (arith, length-take-le place xs (omega arith)) in
      ap (λ n. places_from 0 p (take n xs)) (sym parts) ∙ ap (places_from 0 p) (take-add place (end - place) xs)
      ∙ places-append p 0 (take place xs) (take (end - place) (drop place xs)) ∙ ap (λ n. places_from 0 p (take place xs) ++ places_from n p (take (end - place) (drop place xs))) front

  -- the place that the lowest set bit gives is the next
  pub part_next : (xs : List A) (from end place passed : ℕ) → from ≤ place → end ≤ length xs → Next p xs end place passed → part p xs from (place + (passed + 1)) ≡ part p xs from place ++ (place + passed) ∷ []
  part_next xs from end place passed h k n =
      let on : place + (passed + 1) ≤ length xs = omega (arith, n.within) in
      part_more xs from place (place + (passed + 1)) h (omega arith) on
      ∙ ap (λ l. part p xs from place ++ l) (append_cancel_left (places_from 0 p (take place xs)) _ _ (sym (whole_part xs place (place + (passed + 1)) (omega arith) on) ∙ n.places))

  -- no place is left
  pub part_done : (xs : List A) (from end place : ℕ) → from ≤ place → place ≤ end → end ≤ length xs → places_from 0 p (take end xs) ≡ places_from 0 p (take place xs) → part p xs from end ≡ part p xs from place
  part_done xs from end place h k l e =
      part_more xs from place end h k l
      ∙ ap (λ t. part p xs from place ++ t) (append_cancel_left (places_from 0 p (take place xs)) _ _ (sym (whole_part xs place end k l) ∙ e ∙ sym (append-nil (places_from 0 p (take place xs)))))
      ∙ append-nil (part p xs from place)
