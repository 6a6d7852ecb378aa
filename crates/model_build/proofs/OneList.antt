-- Numbers that rise, and are those of which something holds, are one list.
use Rattle.std.proofs.Common.{◌≡◌, ℕ, zero, suc, ◌<◌, ◌⊎◌, inl, inr, List, [], ◌∷◌, get_or, Contains, refl, sym, subst, arith}
use Rattle.std.specs.List.{AllPairs}
use Rattle.std.proofs.lemmas.List.Kept.{AllPairs-from_increasing}
use Rattle.ifc_schema.specs.Surveys.{Lists}

-- Numbers that rise, and are those of which something holds, are one list.

abbrev Rising : List ℕ → Type 0
Rising xs = AllPairs (λ a b. a < b) xs

rest : (x : ℕ) (xs : List ℕ) → Rising (x ∷ xs) → Rising xs
rest x xs h = λ i j d lt le. h (suc i) (suc j) d (omega arith) (omega arith)

above : (x : ℕ) (xs : List ℕ) (n : ℕ) → Rising (x ∷ xs) → Contains xs n → x < n
above x xs n h c = let l : x < get_or xs c.0 n = h 0 (suc c.0) n (omega arith) (let m = c.1 in omega arith) in subst (λ m. x < m) c.2 l

first : (x : ℕ) (xs : List ℕ) → Contains (x ∷ xs) x
first x xs = (0, omega arith, refl)

later : (x : ℕ) (xs : List ℕ) (n : ℕ) → Contains xs n → Contains (x ∷ xs) n
later x xs n c = (suc c.0, (let m = c.1 in omega arith), c.2)

either : (x : ℕ) (xs : List ℕ) (n : ℕ) → Contains (x ∷ xs) n → (x ≡ n) ⊎ Contains xs n
either x xs n (zero, lt, e) = inl e
either x xs n (suc k, lt, e) = inr (k, omega arith, e)

heads : (x y : ℕ) (xs ys : List ℕ) → Rising (x ∷ xs) → Rising (y ∷ ys) → Contains (y ∷ ys) x → Contains (x ∷ xs) y → x ≡ y
heads x y xs ys r s c d = elim (either y ys x c) [
  | inl e ↦ sym e
  | inr a ↦ elim (either x xs y d) [
    | inl e ↦ e
    | inr b ↦ absurd (let l = above y ys x s a in let m = above x xs y r b in omega arith)
  ]
]

tails : (x y : ℕ) (xs ys : List ℕ) → x ≡ y → Rising (x ∷ xs) → ((n : ℕ) → Contains (x ∷ xs) n → Contains (y ∷ ys) n) → (n : ℕ) → Contains xs n → Contains ys n
tails x y xs ys e r f n c = elim (either y ys n (f n (later x xs n c))) [
  | inl g ↦ absurd (let l = above x xs n r c in omega arith)
  | inr a ↦ a
]

one_list : (xs ys : List ℕ) → Rising xs → Rising ys → ((n : ℕ) → Contains xs n → Contains ys n) → ((n : ℕ) → Contains ys n → Contains xs n) → xs ≡ ys
one_list [] [] r s f g = refl
one_list [] (y ∷ ys) r s f g = absurd (let c = g y (first y ys) in let l = c.1 in omega arith)
one_list (x ∷ xs) [] r s f g = absurd (let c = f x (first x xs) in let l = c.1 in omega arith)
one_list (x ∷ xs) (y ∷ ys) r s f g =
    let e = heads x y xs ys r s (f x (first x xs)) (g y (first y ys)) in
    let t = one_list xs ys (rest x xs r) (rest y ys s) (tails x y xs ys e r f) (tails y x ys xs (sym e) s g) in
    rw (e, t) refl

pub same_lists : (P : ℕ → Type 0) (xs ys : List ℕ) → Lists P xs → Lists P ys → xs ≡ ys
same_lists P xs ys a b = one_list xs ys (AllPairs-from_increasing xs a.rises) (AllPairs-from_increasing ys b.rises) (λ n c. b.all n (a.each n c)) (λ n c. a.all n (b.each n c))
