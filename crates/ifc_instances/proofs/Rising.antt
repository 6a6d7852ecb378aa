-- Numbers that rise.
use Rattle.std.proofs.Common.{◌≡◌, ℕ, ◌+◌, ◌<◌, ◌⊎◌, inl, inr, List, length, get_or, Contains, ap, ◌∙◌, subst, sym, arith}
use Rattle.std.specs.List.Sorted.{IsStrictlyIncreasing}
use Rattle.std.proofs.lemmas.List.{get_or_default}
use Rattle.std.proofs.lemmas.List.Kept.{AllPairs-from_increasing}

-- what is listed below a number of the list stands before it
pub before : (ids : List ℕ) (i k : ℕ) → IsStrictlyIncreasing ids → i < length ids → (c : Contains ids k) → k < get_or ids i 0 → c.0 < i
before ids i k rises lt c low = elim (side c.0 i) [
  | inl l ↦ l
  | inr r ↦ elim r [
    | inl e ↦ absurd (let f = ap (λ n. get_or ids n 0) e in let g = there in omega arith)
    | inr g ↦ absurd (let h = AllPairs-from_increasing ids rises i c.0 0 g c.1 in let m = there in omega arith)
  ]
]
  where
    side : (j i : ℕ) → (j < i) ⊎ ((j ≡ i) ⊎ (i < j))
    side j i = grind arith

    there : get_or ids c.0 0 ≡ k
    there = get_or_default ids c.0 0 k c.1 ∙ c.2

-- the place of what is listed below a number of the list
pub earlier : (ids : List ℕ) (at id k : ℕ) → IsStrictlyIncreasing ids → at < length ids → get_or ids at 0 ≡ id → k < id → Contains ids k → (place : ℕ) × (place < at) × (get_or ids place 0 ≡ k)
earlier ids at id k up lt is below c =
    (c.0, before ids at k up lt c (subst (λ n. k < n) (sym is) below), get_or_default ids c.0 0 k c.1 ∙ c.2)

-- a number below the next one is lower or the same
pub below_next : (k n : ℕ) → k < n + 1 → (k < n) ⊎ (k ≡ n)
below_next k n l = grind arith
