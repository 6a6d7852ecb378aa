-- Places of the items that pass, one block of bits after the other.
use Rattle.std.proofs.Common.{◌≡◌, ℕ, suc, ◌+◌, ◌-◌, ◌*◌, ◌/◌, ◌^◌, ◌<◌, ◌≤◌, Bool, true, false, not, cond, List, [], ◌∷◌, ◌++◌, map, length, get_or, take, drop, refl, sym, ap, ap₂, ◌∙◌, arith, add-zero, zero-add, append-nil}
use Rattle.std.proofs.Math.Seq.{take-add}
use Rattle.std.proofs.lemmas.List.{take_more, length-take-le, take-take, drop-take, drop-drop, length-drop}
use Rattle.std.proofs.lemmas.Simd.{trailing_mask_l}
use Rattle.std.specs.List.{prefix_len, All}
use Rattle.std.proofs.lemmas.List.Elements.{All-head, All-tail}
use lib.Count.{count_trailing_zeros}
use lib.Pow.{shr-shr}
use lib.Lanes.{mask_l}
use Rattle.box_lanes.specs.BoxPlaces.{places_from}

cond_append : (b : Bool) (m : ℕ) (xs ys zs : List ℕ) → xs ≡ ys ++ zs → cond b (m ∷ xs) xs ≡ cond b (m ∷ ys) ys ++ zs
cond_append true m xs ys zs e = ap (λ r. m ∷ r) e
cond_append false m xs ys zs e = e

cond_map : (b : Bool) {A : Type 0} (a : ℕ × A) (r : List (ℕ × A)) → map (λ (e : ℕ × A). e.0) (cond b (a ∷ r) r) ≡ cond b (a.0 ∷ map (λ (e : ℕ × A). e.0) r) (map (λ (e : ℕ × A). e.0) r)
cond_map true a r = refl
cond_map false a r = refl

-- the items of a block from place on
abbrev pub rest_of : {A : Type 0} (xs : List A) (end place : ℕ) → List A
rest_of xs end place = take (end - place) (drop place xs)

module _ {A : Type 0} (p : A → Bool) where
  -- the first item, and then the others
  pub places-cons : (n : ℕ) (x : A) (xs : List A) → places_from n p (x ∷ xs) ≡ cond (p x) (n ∷ places_from (n + 1) p xs) (places_from (n + 1) p xs)
  places-cons n x xs = cond_map (p x) (n, x) _

  pub places-append : (n : ℕ) (xs ys : List A) → places_from n p (xs ++ ys) ≡ places_from n p xs ++ places_from (n + length xs) p ys
  places-append n [] ys = ap (λ m. places_from m p ys) (sym (add-zero n))
  places-append n (x ∷ xs) ys =
      let shift : n + 1 + length xs ≡ n + suc (length xs) = omega arith in
      places-cons n x (xs ++ ys)
      ∙ cond_append (p x) n _ _ _ (places-append (n + 1) xs ys ∙ ap (λ m. places_from (n + 1) p xs ++ places_from m p ys) shift)
      ∙ ap (λ l. l ++ places_from (n + suc (length xs)) p ys) (sym (places-cons n x xs))

  -- one more item
  pub places_more : (xs : List A) (i : ℕ) (d : A) → i < length xs → places_from 0 p (take (i + 1) xs) ≡ places_from 0 p (take i xs) ++ cond (p (get_or xs i d)) (i ∷ []) []
  places_more xs i d h =
      ap (places_from 0 p) (take_more xs i d h) ∙ places-append 0 (take i xs) (get_or xs i d ∷ [])
      ∙ ap₂ (λ l m. l ++ m) refl (places-cons (0 + length (take i xs)) (get_or xs i d) [] ∙ ap (λ m. cond (p (get_or xs i d)) (m ∷ []) []) (zero-add _ ∙ length-take-le i xs (omega arith)))

  -- a step of a loop over the items: the item at i passes
  pub place_taken : (xs : List A) (i : ℕ) (d : A) {r : Bool} {ys zs : List ℕ} → i < length xs → r ≡ p (get_or xs i d) → r ≡ true → ys ≡ places_from 0 p (take i xs) → zs ≡ ys ++ i ∷ [] → zs ≡ places_from 0 p (take (i + 1) xs)
  place_taken xs i d h e t q z = z ∙ ap (λ l. l ++ i ∷ []) q ∙ ap (λ b. places_from 0 p (take i xs) ++ cond b (i ∷ []) []) (sym t ∙ e) ∙ sym (places_more xs i d h)

  -- it doesn't
  pub place_passed : (xs : List A) (i : ℕ) (d : A) {r : Bool} {zs : List ℕ} → i < length xs → r ≡ p (get_or xs i d) → r ≡ false → zs ≡ places_from 0 p (take i xs) → zs ≡ places_from 0 p (take (i + 1) xs)
  place_passed xs i d h e t q = q ∙ sym (append-nil _) ∙ ap (λ b. places_from 0 p (take i xs) ++ cond b (i ∷ []) []) (sym t ∙ e) ∙ sym (places_more xs i d h)

  abbrev bits : List A → ℕ
  bits xs = mask_l (map p xs)

  abbrev before : List A → ℕ
  before xs = prefix_len (λ x. not (p x)) xs

  -- one more item
  bits-cons : (x : A) (xs : List A) (b : Bool) → p x ≡ b → bits (x ∷ xs) ≡ cond b 1 0 + 2 * bits xs
  bits-cons x xs b t = ap (λ c. cond c 1 0 + 2 * bits xs) t

  -- k is the place of the first item that passes
  record First (xs : List A) (k : ℕ) : Type 0 where
    is : k ≡ before xs
    within : k < length xs
    place : (n : ℕ) → places_from n p (take (suc k) xs) ≡ (n + k) ∷ []
    rest : bits (drop (suc k) xs) ≡ bits xs / 2 ^ k / 2

  first_here : (x : A) (xs : List A) → p x ≡ true → First (x ∷ xs) 0
  first_here x xs t =
      let whole : bits (x ∷ xs) ≡ 1 + 2 * bits xs = bits-cons x xs true t in
      record {
        is = sym (ap (λ b. cond (not b) (1 + before xs) 0) t);
        within = omega arith;
        place = λ n. places-cons n x [] ∙ ap (λ b. cond b (n ∷ []) []) t ∙ ap (λ m. m ∷ []) (sym (add-zero n));
        rest = omega (arith, whole);
      }

  first_later : (x : A) (xs : List A) (k : ℕ) → p x ≡ false → First xs k → First (x ∷ xs) (suc k)
  first_later x xs k t f =
      let whole : bits (x ∷ xs) ≡ 0 + 2 * bits xs = bits-cons x xs false t in
      let half : bits (x ∷ xs) / 2 ^ 1 ≡ bits xs = omega (arith, whole) in
      let shifted : bits (x ∷ xs) / 2 ^ suc k ≡ bits xs / 2 ^ k = ap (λ m. bits (x ∷ xs) / 2 ^ m) (omega arith) ∙ sym (shr-shr (bits (x ∷ xs)) 1 k) ∙ ap (λ m. m / 2 ^ k) half in
      record {
        is = ap suc f.is ∙ omega arith ∙ sym (ap (λ b. cond (not b) (1 + before xs) 0) t);
        within = omega (arith, f.within);
        place = λ n. places-cons n x (take (suc k) xs) ∙ ap (λ b. cond b (n ∷ places_from (n + 1) p (take (suc k) xs)) (places_from (n + 1) p (take (suc k) xs))) t ∙ f.place (n + 1) ∙ ap (λ m. m ∷ []) (omega arith);
        rest = f.rest ∙ ap (λ m. m / 2) (sym shifted);
      }

  first_by : (x : A) (xs : List A) → 0 < bits (x ∷ xs) → (0 < bits xs → (k : ℕ) × First xs k) → (b : Bool) → p x ≡ b → (k : ℕ) × First (x ∷ xs) k
  first_by x xs h later true t = (0, first_here x xs t)
  first_by x xs h later false t =
      let f = later (omega (arith, bits-cons x xs false t)) in
      (suc f.0, first_later x xs f.0 t f.1)

  -- a bit is set: an item passes, and the bits above it are those of the items after it
  first : (xs : List A) → 0 < bits xs → (k : ℕ) × First xs k
  first [] h = absurd (omega arith)
  first (x ∷ xs) h = first_by x xs h (first xs) (p x) refl

  -- no bit is set: no item passes
  none_by : (n : ℕ) (x : A) (xs : List A) → bits (x ∷ xs) ≡ 0 → (bits xs ≡ 0 → places_from (n + 1) p xs ≡ []) → (b : Bool) → p x ≡ b → places_from n p (x ∷ xs) ≡ []
  none_by n x xs e others true t = absurd (omega (arith, bits-cons x xs true t))
  none_by n x xs e others false t =
      places-cons n x xs ∙ ap (λ b. cond b (n ∷ places_from (n + 1) p xs) (places_from (n + 1) p xs)) t ∙ others (omega (arith, bits-cons x xs false t))

  none : (n : ℕ) (xs : List A) → bits xs ≡ 0 → places_from n p xs ≡ []
  none n [] e = refl
  none n (x ∷ xs) e = none_by n x xs e (none (n + 1) xs) (p x) refl

  -- the lowest set bit gives the next place
  pub record Next (xs : List A) (end place passed : ℕ) : Type 0 where
    pub within : place + passed < end
    pub places : places_from 0 p (take (place + (passed + 1)) xs) ≡ places_from 0 p (take place xs) ++ (place + passed) ∷ []
    pub lanes : mask_l (map p (rest_of xs end (place + (passed + 1)))) ≡ mask_l (map p (rest_of xs end place)) / 2 ^ passed / 2

  next_by : (xs : List A) (end place passed k : ℕ) → place ≤ end → end ≤ length xs → passed ≡ k → First (rest_of xs end place) k → Next xs end place passed
  next_by xs end place passed k low high e f =
      let rest = rest_of xs end place in
      let long : length rest ≡ end - place = length-take-le (end - place) (drop place xs) (omega (arith, length-drop place xs)) in
      let up : passed + 1 ≡ suc k = omega arith in
      let inside : suc k ≤ end - place = omega (arith, f.within) in
      let left = end - (place + (passed + 1)) in
      let parts : suc k + left ≡ end - place = omega arith in
      let added : place + suc k ≡ place + (passed + 1) = omega arith in
      let front : length (take place xs) ≡ place = length-take-le place xs (omega arith) in
      let one : take (passed + 1) (drop place xs) ≡ take (suc k) rest = ap (λ n. take n (drop place xs)) up ∙ sym (take-take (suc k) (end - place) (drop place xs) inside) in
      let behind : rest_of xs end (place + (passed + 1)) ≡ drop (suc k) rest =
      ap (take left) (ap (λ n. drop n xs) (sym added) ∙ sym (drop-drop (suc k) place xs)) ∙ sym (drop-take (suc k) left (drop place xs)) ∙ ap (λ n. drop (suc k) (take n (drop place xs))) parts in
      record {
        within = omega (arith, f.within);
        places =
            ap (places_from 0 p) (take-add place (passed + 1) xs) ∙ places-append 0 (take place xs) (take (passed + 1) (drop place xs))
            ∙ ap (λ l. places_from 0 p (take place xs) ++ l) (ap₂ (λ n l. places_from n p l) (zero-add _ ∙ front) one ∙ f.place place ∙ ap (λ n. (place + n) ∷ []) (sym e));
        lanes = ap (λ l. mask_l (map p l)) behind ∙ f.rest ∙ ap (λ n. mask_l (map p rest) / 2 ^ n / 2) (sym e);
      }

  pub next : (xs : List A) (end place lanes : ℕ) → place ≤ end → end ≤ length xs → end - place ≤ 64 → (lanes ≡ 0 → ⊥) → lanes ≡ mask_l (map p (rest_of xs end place)) → Next xs end place (count_trailing_zeros 64 lanes)
  next xs end place lanes low high short some e =
      let rest = rest_of xs end place in
      let long : length rest ≡ end - place = length-take-le (end - place) (drop place xs) (omega (arith, length-drop place xs)) in
      let set : 0 < mask_l (map p rest) = omega arith in
      let f = first rest set in
      next_by xs end place (count_trailing_zeros 64 lanes) f.0 low high (ap (count_trailing_zeros 64) e ∙ trailing_mask_l p 64 rest (omega (arith, long)) set ∙ sym f.1.is) f.1

  -- the block is finished
  pub finished : (xs : List A) (end place : ℕ) → place ≤ end → end ≤ length xs → mask_l (map p (rest_of xs end place)) ≡ 0 → places_from 0 p (take end xs) ≡ places_from 0 p (take place xs)
  finished xs end place low high e =
      let whole : place + (end - place) ≡ end = omega arith in
      ap (λ n. places_from 0 p (take n xs)) (sym whole) ∙ ap (places_from 0 p) (take-add place (end - place) xs)
      ∙ places-append 0 (take place xs) (rest_of xs end place)
      ∙ ap (λ l. places_from 0 p (take place xs) ++ l) (none _ (rest_of xs end place) e) ∙ append-nil _

-- tests that agree at each item
pub places_agree : {A : Type 0} (p q : A → Bool) (n : ℕ) (xs : List A) → All (λ x. p x ≡ q x) xs → places_from n p xs ≡ places_from n q xs
places_agree p q n [] h = refl
places_agree p q n (x ∷ xs) h =
    places-cons p n x xs
    ∙ ap₂ (λ b l. cond b (n ∷ l) l) (All-head (λ y. p y ≡ q y) x xs h) (places_agree p q (n + 1) xs (All-tail (λ y. p y ≡ q y) x xs h))
    ∙ sym (places-cons q n x xs)
