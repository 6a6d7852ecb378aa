-- The places of the items that pass: they rise, and stand for the items; what is left of them when an item passes no more.
use Rattle.std.proofs.Common.{◌≡◌, ℕ, zero, suc, ◌+◌, ◌-◌, ◌<◌, ◌≤◌, ◌⊎◌, inl, inr, Bool, true, false, cond, List, [], ◌∷◌, ◌++◌, length, get_or, take, drop, set, map, filter, reverse, refl, sym, ap, ap₂, subst, arith, ◌∙◌, add-zero, append-nil, drop-cons, length-set}
use Rattle.std.specs.List.{All, AllPairs, remove}
use Rattle.std.proofs.lemmas.Bool.{cases_order}
use Rattle.std.proofs.lemmas.List.{length-map, get_or-map, get_or-append_right, append_assoc, take-append-drop, length-take-le, take-set, drop-set, reverse-append, length-reverse, get_or-reverse, length-append, drop_all}
use Rattle.std.proofs.lemmas.List.Elements.{All-nil, All-cons}
use Rattle.std.proofs.lemmas.List.Edits.{remove-append_right}
use Rattle.std.proofs.lemmas.List.Kept.{AllPairs-cons}
use Rattle.box_lanes.specs.BoxPlaces.{places_from}
use Rattle.box_lanes.proofs.Places.{places-cons, places-append}

pub pairs_nil : {X : Type 0} (R : X → X → Type 0) → AllPairs R []
pairs_nil R i j d below within = absurd (omega arith)

nothing_left : (n : ℕ) → n - n ≡ 0
nothing_left n = omega arith

cond_all : (P : ℕ → Type 0) (b : Bool) (x : ℕ) (xs : List ℕ) → P x → All P xs → All P (cond b (x ∷ xs) xs)
cond_all P true x xs h k = All-cons P x xs h k
cond_all P false x xs h k = k

cond_pairs : (b : Bool) (x : ℕ) (xs : List ℕ) → All (λ k. x < k) xs → AllPairs (λ (x y : ℕ). x < y) xs → AllPairs (λ (x y : ℕ). x < y) (cond b (x ∷ xs) xs)
cond_pairs true x xs h k = AllPairs-cons (λ (x y : ℕ). x < y) x xs h k
cond_pairs false x xs h k = k

cond_mapped : {A B : Type 0} (b : Bool) (g : ℕ → B) (f : A → B) (n : ℕ) (ns : List ℕ) (x : A) (xs : List A) → g n ≡ f x → map g ns ≡ map f xs → map g (cond b (n ∷ ns) ns) ≡ map f (cond b (x ∷ xs) xs)
cond_mapped true g f n ns x xs e h = ap₂ (λ y l. y ∷ l) e h
cond_mapped false g f n ns x xs e h = h

module _ {A : Type 0} (p : A → Bool) where
  all_from : (P : ℕ → Type 0) (n : ℕ) (xs : List A) → ((k : ℕ) → n ≤ k → k < n + length xs → P k) → All P (places_from n p xs)
  all_from P n [] h = All-nil P
  all_from P n (x ∷ xs) h =
      subst (All P) (sym (places-cons p n x xs))
      (cond_all P (p x) n (places_from (n + 1) p xs) (h n (omega arith) (omega arith)) (all_from P (n + 1) xs (λ k a b. h k (omega arith) (omega arith))))

  rise_from : (n : ℕ) (xs : List A) → AllPairs (λ (x y : ℕ). x < y) (places_from n p xs)
  rise_from n [] = pairs_nil (λ (x y : ℕ). x < y)
  rise_from n (x ∷ xs) =
      subst (AllPairs (λ (x y : ℕ). x < y)) (sym (places-cons p n x xs))
      (cond_pairs (p x) n (places_from (n + 1) p xs) (all_from (λ k. n < k) (n + 1) xs (λ k a b. omega arith)) (rise_from (n + 1) xs))

  -- the places are below the count
  pub inside : (xs : List A) → All (λ k. k < length xs) (places_from 0 p xs)
  inside xs = all_from (λ k. k < length xs) 0 xs (λ k a b. omega arith)

  mapped_from : {B : Type 0} (f : A → B) (pre xs : List A) (n : ℕ) (d : A) → length pre ≡ n → map (λ k. f (get_or (pre ++ xs) k d)) (places_from n p xs) ≡ map f (filter p xs)
  mapped_from f pre [] n d e = refl
  mapped_from f pre (x ∷ xs) n d e =
      let here : get_or (pre ++ x ∷ xs) n d ≡ x =
      get_or-append_right pre (x ∷ xs) n n d e (omega arith) ∙ ap (λ i. get_or (x ∷ xs) i d) (nothing_left n) in
      let whole : (pre ++ x ∷ []) ++ xs ≡ pre ++ x ∷ xs = append_assoc pre (x ∷ []) xs in
      let more : length (pre ++ x ∷ []) ≡ n + 1 = omega (arith, e, length-append pre (x ∷ [])) in
      let rest : map (λ k. f (get_or (pre ++ x ∷ xs) k d)) (places_from (n + 1) p xs) ≡ map f (filter p xs) =
      subst (λ (l : List A). map (λ k. f (get_or l k d)) (places_from (n + 1) p xs) ≡ map f (filter p xs)) whole (mapped_from f (pre ++ x ∷ []) xs (n + 1) d more) in
      ap (map (λ k. f (get_or (pre ++ x ∷ xs) k d))) (places-cons p n x xs)
      ∙ cond_mapped (p x) (λ k. f (get_or (pre ++ x ∷ xs) k d)) f n (places_from (n + 1) p xs) x (filter p xs) (ap f here) rest

  -- what stands at the places is what passes
  pub mapped : {B : Type 0} (f : A → B) (xs : List A) (d : A) → map (λ k. f (get_or xs k d)) (places_from 0 p xs) ≡ map f (filter p xs)
  mapped f xs d = mapped_from f [] xs 0 d refl

  -- ---- the places, falling
  abbrev pub falling : List A → List ℕ
  falling xs = reverse (places_from 0 p xs)

  pub falls : (xs : List A) → AllPairs (λ (x y : ℕ). y < x) (falling xs)
  falls xs i j d below in_it =
      let l : List ℕ = places_from 0 p xs in
      let count : length (reverse l) ≡ length l = length-reverse l in
      let a : get_or (reverse l) i d ≡ get_or l (length l - 1 - i) d = get_or-reverse l i d (omega (arith, count)) in
      let b : get_or (reverse l) j d ≡ get_or l (length l - 1 - j) d = get_or-reverse l j d (omega (arith, count)) in
      let r = rise_from 0 xs (length l - 1 - j) (length l - 1 - i) d (omega (arith, count)) (omega (arith, count)) in
      omega (arith, a, b, r)

  -- the places split at one of them
  record Split (xs : List A) (i : ℕ) (y : A) : Type 0 where
    front : List ℕ
    behind : List ℕ
    whole : places_from 0 p xs ≡ front ++ i ∷ behind
    rest : places_from 0 p (set xs i y) ≡ front ++ behind

  cut : (xs : List A) (i : ℕ) → i < length xs → places_from 0 p xs ≡ places_from 0 p (take i xs) ++ places_from i p (drop i xs)
  cut xs i h =
      let n : 0 + length (take i xs) ≡ i = omega (arith, length-take-le i xs (omega arith)) in
      ap (places_from 0 p) (sym (take-append-drop i xs)) ∙ places-append p 0 (take i xs) (drop i xs)
      ∙ ap (λ m. places_from 0 p (take i xs) ++ places_from m p (drop i xs)) n

  split : (xs : List A) (i : ℕ) (x y : A) → i < length xs → p (get_or xs i x) ≡ true → p y ≡ false → Split xs i y
  split xs i x y h t f =
      let after : List ℕ = places_from (i + 1) p (drop (i + 1) xs) in
      let next : suc i ≡ i + 1 = omega arith in
      let longer : i < length (set xs i y) = omega (arith, length-set xs i y) in
      record {
        front = places_from 0 p (take i xs);
        behind = after;
        whole =
            cut xs i h
            ∙ ap (λ l. places_from 0 p (take i xs) ++ l)
            (ap (places_from i p) (drop-cons xs i x h ∙ ap (λ n. get_or xs i x ∷ drop n xs) next) ∙ places-cons p i (get_or xs i x) (drop (i + 1) xs)
            ∙ ap (λ b. cond b (i ∷ after) after) t);
        rest =
            cut (set xs i y) i longer
            ∙ ap₂ (λ l k. places_from 0 p l ++ k) (take-set xs i y)
            (ap (places_from i p) (drop-set xs i y h) ∙ places-cons p i y (drop (i + 1) xs) ∙ ap (λ b. cond b (i ∷ after) after) f);
      }

  turned : (a b : List ℕ) (i : ℕ) → reverse (a ++ i ∷ b) ≡ reverse b ++ i ∷ reverse a
  turned a b i =
      reverse-append a (i ∷ b) ∙ ap (λ l. l ++ reverse a) (reverse-append (i ∷ []) b) ∙ append_assoc (reverse b) (i ∷ []) (reverse a)

  -- one of the places that fall stands once among them
  once : (xs : List A) (l : List ℕ) (k m i : ℕ) → l ≡ falling xs → k < length l → m < length l → get_or l k 0 ≡ i → get_or l m 0 ≡ i → (k ≡ m) ⊎ ((k < m) ⊎ (m < k)) → k ≡ m
  once xs l k m i e hk hm a b (inl same) = same
  once xs l k m i e hk hm a b (inr (inl lt)) =
      let f = subst (AllPairs (λ (x y : ℕ). y < x)) (sym e) (falls xs) in
      absurd (omega (arith, f k m 0 lt hm, a, b))
  once xs l k m i e hk hm a b (inr (inr gt)) =
      let f = subst (AllPairs (λ (x y : ℕ). y < x)) (sym e) (falls xs) in
      absurd (omega (arith, f m k 0 gt hk, a, b))

  -- without one of them: the places, where that item passes no more
  pub without : (xs : List A) (l : List ℕ) (i k : ℕ) (x y : A) → l ≡ falling xs → i < length xs → p (get_or xs i x) ≡ true → p y ≡ false → k < length l → get_or l k 0 ≡ i → remove l k ≡ falling (set xs i y)
  without xs l i k x y e h t f hk at =
      let s = split xs i x y h t f in
      let parts : l ≡ reverse s.behind ++ i ∷ reverse s.front = e ∙ ap reverse s.whole ∙ turned s.front s.behind i in
      let long : length l ≡ length (reverse s.behind) + suc (length (reverse s.front)) = ap length parts ∙ length-append (reverse s.behind) (i ∷ reverse s.front) in
      let m : ℕ = length (reverse s.behind) in
      let there : get_or l m 0 ≡ i =
      ap (λ u. get_or u m 0) parts ∙ get_or-append_right (reverse s.behind) (i ∷ reverse s.front) m m 0 refl (omega arith)
      ∙ ap (λ n. get_or (i ∷ reverse s.front) n 0) (nothing_left m) in
      let same : k ≡ m = once xs l k m i e hk (omega (arith, long)) at there (cases_order k m) in
      ap₂ remove parts same ∙ remove-append_right (reverse s.behind) (i ∷ reverse s.front) m m refl (omega arith)
      ∙ ap (λ n. reverse s.behind ++ remove (i ∷ reverse s.front) n) (nothing_left m)
      ∙ sym (reverse-append s.front s.behind) ∙ sym (ap reverse s.rest)

  -- a place that passes stands among them
  pub stands : (xs : List A) (l : List ℕ) (i : ℕ) (x y : A) → l ≡ falling xs → i < length xs → p (get_or xs i x) ≡ true → p y ≡ false → (k : ℕ) × (k < length l) × (get_or l k 0 ≡ i)
  stands xs l i x y e h t f =
      let s = split xs i x y h t f in
      let parts : l ≡ reverse s.behind ++ i ∷ reverse s.front = e ∙ ap reverse s.whole ∙ turned s.front s.behind i in
      let m : ℕ = length (reverse s.behind) in
      let long : length l ≡ m + suc (length (reverse s.front)) = ap length parts ∙ length-append (reverse s.behind) (i ∷ reverse s.front) in (
        m,
        omega (arith, long),
        ap (λ u. get_or u m 0) parts ∙ get_or-append_right (reverse s.behind) (i ∷ reverse s.front) m m 0 refl (omega arith)
            ∙ ap (λ n. get_or (i ∷ reverse s.front) n 0) (nothing_left m),
      )
