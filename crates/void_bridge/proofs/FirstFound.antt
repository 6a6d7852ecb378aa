-- What a search finds that goes on until something is found.
use Rattle.std.proofs.Common.{◌≡◌, ◌∙◌, ap, sym, refl, ℕ, zero, suc, ◌+◌, ◌<◌, ◌≤◌, inl, inr, Option, Some, None, arith}
use Rattle.std.proofs.lemmas.Bool.{cases_lt}
use Rattle.void_bridge.specs.Bridges.{or_found, first_found}

none_from : {A : Type 0} (find : ℕ → Option A) (i n : ℕ) → ((k : ℕ) → i ≤ k → k < i + n → find k ≡ None) → first_found find i n ≡ None
none_from find i zero h = refl
none_from {A} find i (suc n) h =
    ap (λ (o : Option A). or_found o (first_found find (i + 1) n)) (h i (omega arith) (omega arith))
    ∙ none_from find (i + 1) n (λ k l m. h k (omega arith) (omega arith))

some_from : {A : Type 0} (find : ℕ → Option A) (i n j : ℕ) (r : A) → i ≤ j → j < i + n → find j ≡ Some r → ((k : ℕ) → i ≤ k → k < j → find k ≡ None) → first_found find i n ≡ Some r
some_from find i zero j r f g t h = absurd (omega arith)
some_from {A} find i (suc n) j r f g t h =
    elim (cases_lt i j) [
      | inl l ↦ ap (λ (o : Option A). or_found o (first_found find (i + 1) n)) (h i (omega arith) l)
          ∙ some_from find (i + 1) n j r (omega arith) (omega arith) t (λ k o m. h k (omega arith) m)
      | inr l ↦ let e : j ≡ i = omega arith in
          ap (λ (o : Option A). or_found o (first_found find (i + 1) n)) (sym (ap find e) ∙ t)
    ]

-- the search from zero on finds nothing, or what the first of the numbers gives for which there is something
pub none_found : {A : Type 0} (find : ℕ → Option A) (n : ℕ) → ((k : ℕ) → k < n → find k ≡ None) → None ≡ first_found find 0 n
none_found find n h = sym (none_from find 0 n (λ k l m. h k (omega arith)))

pub some_found : {A : Type 0} (find : ℕ → Option A) (n j : ℕ) (r : A) → j < n → find j ≡ Some r → ((k : ℕ) → k < j → find k ≡ None) → Some r ≡ first_found find 0 n
some_found find n j r g t h = sym (some_from find 0 n j r (omega arith) (omega (arith, g)) t (λ k l m. h k m))
