-- A search by halves finds the element of a key, or there is none.
use Rattle.std.proofs.Common.{◌≡◌, ℕ, ◌<◌, ◌≤◌, ◌==◌, ◌⊎◌, inl, inr, List, length, get_or, arith, nat_lt, Ok, Err}
use Rattle.std.proofs.lemmas.Bool.{eqb-true, cases_Bool}
use Rattle.std.proofs.lemmas.Bool.Decides.{nat_tests}
use Rattle.std.proofs.lemmas.List.Sorted.{searchable_from_sorted}
use Rattle.std.proofs.lemmas.Cmp.{nat_cmp_total}
use Rattle.std.specs.Ordering.{nat_cmp}
use Rattle.std.specs.declared.cmp.Ordering.TheVariants.{Less, Equal, Greater}
use Rattle.std.specs.List.Sorted.{IsBinarySearchResult, IsSortedByKey}

before : (k n : ℕ) → (k < n) ⊎ (n ≤ k)
before k n = grind arith

equal : (a b : ℕ) → nat_cmp a b ≡ Equal → a ≡ b
equal a b h = elim (cases_Bool (nat_lt a b)) [
  | inl t ↦ (let k = rw t at h in cc)
  | inr f ↦ (let k = rw f at h in elim (cases_Bool (a == b)) [
    | inl t ↦ eqb-true a b t
    | inr g ↦ (let l = rw g at k in cc)
  ])
]

less : (a b : ℕ) → nat_cmp a b ≡ Less → a ≡ b → ⊥
less a b h e = elim (cases_Bool (nat_lt a b)) [
  | inl t ↦ grind (arith, nat_tests)
  | inr f ↦ (let k = rw f at h in elim (cases_Bool (a == b)) [ inl t ↦ (let l = rw t at k in cc) | inr g ↦ (let l = rw g at k in cc) ])
]

greater : (a b : ℕ) → nat_cmp a b ≡ Greater → a ≡ b → ⊥
greater a b h e = elim (cases_Bool (nat_lt a b)) [
  | inl t ↦ (let k = rw t at h in cc)
  | inr f ↦ (let k = rw f at h in elim (cases_Bool (a == b)) [ inl t ↦ (let l = rw t at k in cc) | inr g ↦ grind (arith, nat_tests) ])
]

-- a search by a key that finds no place finds no element of that key
pub none_id : {X : Type 0} (key : X → ℕ) (x : ℕ) (xs : List X) (i : ℕ) → IsBinarySearchResult (λ y. nat_cmp (key y) x) xs (Err i) → IsSortedByKey key nat_cmp xs
    → (k : ℕ) (d : X) → k < length xs → key (get_or xs k d) ≡ x → ⊥
none_id key x xs i h s k d lt e =
    let p = h (searchable_from_sorted nat_cmp_total key xs x s) in
    elim (before k i) [
      | inl b ↦ less (key (get_or xs k d)) x (p.0 k d (omega arith) b) e
      | inr a ↦ greater (key (get_or xs k d)) x (p.1 k d a lt) e
    ]

pub found_id : {X : Type 0} (key : X → ℕ) (x : ℕ) (xs : List X) (i : ℕ) (d : X) → IsBinarySearchResult (λ y. nat_cmp (key y) x) xs (Ok i) → key (get_or xs i d) ≡ x
found_id key x xs i d h = equal (key (get_or xs i d)) x (h d)
