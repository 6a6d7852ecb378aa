-- A vector of comparisons, lane by lane, of 32 bits or of 16.
use Rattle.std.proofs.Common.{◌≡◌, ℕ, ◌-◌, ◌%◌, ◌^◌, ℤ, Bool, true, false, ◌&&◌, cond, List, [], ◌∷◌, map, length, replicate, refl, sym, ap, ap₂, ◌∙◌, of_z, arith}
use Rattle.std.specs.List.{All}
use Rattle.std.proofs.lemmas.Int.{to_z-of_z}
use Rattle.std.proofs.lemmas.List.{length-map}
use Rattle.std.proofs.lemmas.List.Elements.{All-head, All-tail}
use Rattle.std.proofs.lemmas.Simd.{mask_l-mod}
use lib.Lanes.{top, zip2, mask_l}
use lib.Signed.{le_z}
use borrow.Rule.Simd.Lanes.{act2}
use borrow.Table.Row.{s_int}
use mir.Syntax.{Width, w16, w32, bit_and, mask, le, signed}
use mir.Val.{SFits, bits, hbits}

-- how wide a lane is
abbrev pub width : Bool → Width
width true = w16
width false = w32

abbrev at_most : Bool → ℕ → ℕ → ℕ
at_most k = act2 (mask (le signed)) (s_int (width k)) (s_int (width k)) (s_int (width k))

abbrev both : Bool → ℕ → ℕ → ℕ
both k = act2 bit_and (s_int (width k)) (s_int (width k)) (s_int (width k))

-- all ones, or 0
abbrev lane : Bool → Bool → ℕ
lane k b = cond b (2 ^ bits (width k) - 1) 0

both-lanes : (k a b : Bool) → both k (lane k a) (lane k b) ≡ lane k (a && b)
both-lanes true true true = refl
both-lanes true true false = refl
both-lanes true false true = refl
both-lanes true false false = refl
both-lanes false true true = refl
both-lanes false true false = refl
both-lanes false false true = refl
both-lanes false false false = refl

top-lane : (k a : Bool) → top (hbits (width k)) (lane k a) ≡ a
top-lane true true = refl
top-lane true false = refl
top-lane false true = refl
top-lane false false = refl

at_most-lanes : (k : Bool) (x y : ℤ) → SFits (width k) x → SFits (width k) y → at_most k (of_z (width k) x) (of_z (width k) y) ≡ lane k (le_z x y)
at_most-lanes true x y X Y = rw (to_z-of_z w16 x X, to_z-of_z w16 y Y)
at_most-lanes false x y X Y = rw (to_z-of_z w32 x X, to_z-of_z w32 y Y)

module _ (k : Bool) {A : Type 0} where
  abbrev pub Fit : (A → ℤ) → A → Type 0
  Fit side b = SFits (width k) (side b)

  below : (low : A → ℤ) (to : ℤ) → SFits (width k) to → (bs : List A) → All (Fit low) bs → zip2 (at_most k) (map (of_z (width k)) (map low bs)) (replicate (length bs) (of_z (width k) to)) ≡ map (λ b. lane k (le_z (low b) to)) bs
  below low to T [] fits = refl
  below low to T (b ∷ bs) fits = ap₂ (λ x l. x ∷ l) (at_most-lanes k (low b) to (All-head (Fit low) b bs fits) T) (below low to T bs (All-tail (Fit low) b bs fits))

  above : (high : A → ℤ) (from : ℤ) → SFits (width k) from → (bs : List A) → All (Fit high) bs → zip2 (at_most k) (replicate (length bs) (of_z (width k) from)) (map (of_z (width k)) (map high bs)) ≡ map (λ b. lane k (le_z from (high b))) bs
  above high from F [] fits = refl
  above high from F (b ∷ bs) fits = ap₂ (λ x l. x ∷ l) (at_most-lanes k from (high b) F (All-head (Fit high) b bs fits)) (above high from F bs (All-tail (Fit high) b bs fits))

  anded : (f g : A → Bool) (bs : List A) → zip2 (both k) (map (λ b. lane k (f b)) bs) (map (λ b. lane k (g b)) bs) ≡ map (λ b. lane k (f b && g b)) bs
  anded f g [] = refl
  anded f g (b ∷ bs) = ap₂ (λ x l. x ∷ l) (both-lanes k (f b) (g b)) (anded f g bs)

  -- both tests, of two vectors
  pub and_also : (f g : A → Bool) (bs : List A) {xs ys : List ℕ} → xs ≡ map (λ b. lane k (f b)) bs → ys ≡ map (λ b. lane k (g b)) bs → zip2 (both k) xs ys ≡ map (λ b. lane k (f b && g b)) bs
  and_also f g bs p q = ap₂ (zip2 (both k)) p q ∙ anded f g bs

  -- the spans of an axis against one span
  pub spans : (low high : A → ℤ) (from to : ℤ) (bs : List A) {xs ys : List ℤ} → SFits (width k) from → SFits (width k) to → length bs ≡ 8 → All (Fit low) bs → All (Fit high) bs → xs ≡ map low bs → ys ≡ map high bs
      → zip2 (both k) (zip2 (at_most k) (map (of_z (width k)) xs) (replicate 8 (of_z (width k) to))) (zip2 (at_most k) (replicate 8 (of_z (width k) from)) (map (of_z (width k)) ys)) ≡ map (λ b. lane k (le_z (low b) to && le_z from (high b))) bs
  spans low high from to bs {xs} {ys} F T long lows highs p q =
      and_also _ _ bs
      (ap₂ (λ l n. zip2 (at_most k) (map (of_z (width k)) l) (replicate n (of_z (width k) to))) p (sym long) ∙ below low to T bs lows)
      (ap₂ (λ l n. zip2 (at_most k) (replicate n (of_z (width k) from)) (map (of_z (width k)) l)) q (sym long) ∙ above high from F bs highs)

  -- .. where its ends are known by others
  pub spans_by : (low high : A → ℤ) (from to : ℤ) (bs : List A) {xs ys : List ℤ} {f t : ℤ} → f ≡ from → t ≡ to → SFits (width k) from → SFits (width k) to → length bs ≡ 8 → All (Fit low) bs → All (Fit high) bs
      → xs ≡ map low bs → ys ≡ map high bs
      → zip2 (both k) (zip2 (at_most k) (map (of_z (width k)) xs) (replicate 8 (of_z (width k) t))) (zip2 (at_most k) (replicate 8 (of_z (width k) f)) (map (of_z (width k)) ys)) ≡ map (λ b. lane k (le_z (low b) to && le_z from (high b))) bs
  spans_by low high from to bs {xs} {ys} e g F T long lows highs p q =
      ap₂ (λ f t. zip2 (both k) (zip2 (at_most k) (map (of_z (width k)) xs) (replicate 8 (of_z (width k) t))) (zip2 (at_most k) (replicate 8 (of_z (width k) f)) (map (of_z (width k)) ys))) e g
      ∙ spans low high from to bs F T long lows highs p q

  tops : (f : A → Bool) (bs : List A) → map (top (hbits (width k))) (map (λ b. lane k (f b)) bs) ≡ map f bs
  tops f [] = refl
  tops f (b ∷ bs) = ap₂ (λ x l. x ∷ l) (top-lane k (f b)) (tops f bs)

  -- a bit for each lane
  pub masked : (f : A → Bool) (bs : List A) {xs : List ℕ} → length bs ≡ 8 → xs ≡ map (λ b. lane k (f b)) bs → mask_l (map (top (hbits (width k))) xs) % 2 ^ 64 ≡ mask_l (map f bs)
  masked f bs long p = ap (λ l. mask_l (map (top (hbits (width k))) l) % 2 ^ 64) p ∙ ap (λ l. mask_l l % 2 ^ 64) (tops f bs) ∙ mask_l-mod (map f bs) 64 (omega (arith, length-map bs f))

-- the low side or the high one, of each
abbrev pub far : {A : Type 0} → Bool → (low high : A → ℤ) → A → ℤ
far later low high b = cond later (low b) (high b)

pub far_list : {A : Type 0} (later : Bool) (low high : A → ℤ) (bs : List A) {xs ys zs : List ℤ} → zs ≡ cond later xs ys → xs ≡ map low bs → ys ≡ map high bs → zs ≡ map (far later low high) bs
far_list true low high bs e p q = e ∙ p
far_list false low high bs e p q = e ∙ q

pub far_fit : (k : Bool) {A : Type 0} (later : Bool) (low high : A → ℤ) (bs : List A) → All (Fit k low) bs → All (Fit k high) bs → All (Fit k (far later low high)) bs
far_fit k true low high bs p q = p
far_fit k false low high bs p q = q
