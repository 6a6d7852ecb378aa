-- Numbers that values refer to, each once.
use Rattle.std.proofs.Common.{◌≡◌, ℕ, zero, suc, ◌<◌, inl, inr, Option, Some, None, get_or, arith, List, [], ◌∷◌, ◌++◌, filter_map, nat_eq, Contains, sym, ◌∙◌, ap, subst}
use Rattle.std.specs.List.Retain.{IsFiltered, DiffersFromLast}
use Rattle.std.specs.List.Sorted.{IsStrictlyIncreasing, IsSorted, IsPermutation}
use Rattle.std.specs.Ordering.{nat_cmp}
use Rattle.std.specs.List.{cons_option}
use Rattle.std.proofs.lemmas.List.Elements.{filter_map-append, Contains-append_cases}
use Rattle.std.proofs.lemmas.List.Filters.{dedup_is}
use Rattle.std.proofs.lemmas.List.Kept.{Contains-dedup_nat, Contains-from_dedup}
use Rattle.std.proofs.lemmas.List.Sorted.{Contains-permutation, IsPermutation-sym}
use Rattle.std.proofs.lemmas.Map.Keys.{IsStrictlyIncreasing-dedup}
use Rattle.p21_values.specs.declared.value.Value21.{Value21}
use Rattle.p21_values.specs.Values.{reference_of}
use Rattle.faceset.specs.inner.FaceNumbers.{HaveSame}

-- one more value
pub numbers_more : (vs : List Value21) (v : Value21) (old new : List ℕ) → old ≡ filter_map reference_of vs → new ≡ old ++ filter_map reference_of (v ∷ []) → new ≡ filter_map reference_of (vs ++ v ∷ [])
numbers_more vs v old new e n = n ∙ ap (λ xs. xs ++ filter_map reference_of (v ∷ [])) e ∙ sym (filter_map-append reference_of vs (v ∷ []))

-- a value that doesn't refer to a number
unnamed_one : (o : Option ℕ) (id : ℕ) → (o ≡ Some id → ⊥) → Contains (cons_option o []) id → ⊥
unnamed_one None id none c = let lt = c.1 in omega (arith, lt)
unnamed_one (Some n) id none c = from c.0 c.1 c.2
  where
    from : (k : ℕ) → k < 1 → get_or (n ∷ []) k id ≡ id → ⊥
    from zero lt e = none (ap Some e)
    from (suc k) lt e = omega (arith, lt)

pub unnamed_more : (vs : List Value21) (v : Value21) (id : ℕ) → (reference_of v ≡ Some id → ⊥) → (Contains (filter_map reference_of vs) id → ⊥) → Contains (filter_map reference_of (vs ++ v ∷ [])) id → ⊥
unnamed_more vs v id here before c =
    elim (Contains-append_cases (filter_map reference_of vs) (filter_map reference_of (v ∷ [])) id (subst (λ xs. Contains xs id) (filter_map-append reference_of vs (v ∷ [])) c)) [
      | inl a ↦ before a
      | inr b ↦ unnamed_one (reference_of v) id here b
    ]

-- numbers that were sorted, and of which each was kept once

pub once_rises : (ys zs : List ℕ) → IsSorted nat_cmp ys → IsFiltered (DiffersFromLast nat_eq) [] ys zs → IsStrictlyIncreasing zs
once_rises ys zs s f = subst IsStrictlyIncreasing (sym (dedup_is nat_eq ys zs f)) (IsStrictlyIncreasing-dedup ys s)

pub once_same : (xs ys zs refs : List ℕ) → xs ≡ refs → IsPermutation xs ys → IsFiltered (DiffersFromLast nat_eq) [] ys zs → HaveSame zs refs
once_same xs ys zs refs e p f = record {
  to = λ id c.
      let there = Contains-from_dedup nat_eq ys id (subst (λ l. Contains l id) (dedup_is nat_eq ys zs f) c) in
      subst (λ l. Contains l id) e (Contains-permutation ys xs id (IsPermutation-sym xs ys p) there);
  from = λ id c.
      let there = Contains-permutation xs ys id p (subst (λ l. Contains l id) (sym e) c) in
      subst (λ l. Contains l id) (sym (dedup_is nat_eq ys zs f)) (Contains-dedup_nat ys id there);
}
