-- Numbers of the boxes that a cell holds.
use Rattle.std.proofs.Common.{◌≡◌, ℕ, suc, zero, ◌+◌, ◌<◌, ◌≤◌, ◌⊎◌, inl, inr, Bool, true, false, cond, List, [], ◌∷◌, length, get_or, refl, sym, ap, ◌∙◌, subst, arith, true≢false}
use Rattle.std.specs.List.{Contains}
use Rattle.std.proofs.lemmas.List.Elements.{Contains-append_right}
use Rattle.std.proofs.lemmas.Bool.{cases_eq}
use Rattle.std.proofs.lemmas.List.{get_or_default}
use Rattle.box_lanes.specs.BoxPlaces.{places_from}
use Rattle.box_lanes.proofs.Places.{places-cons}

-- a number is listed, at the front or after it
head_listed : (b : Bool) (n : ℕ) (rest : List ℕ) → b ≡ true → Contains (cond b (n ∷ rest) rest) n
head_listed true n rest e = (0, omega arith, refl)
head_listed false n rest e = absurd (true≢false (sym e))

tail_listed : (b : Bool) (n m : ℕ) (rest : List ℕ) → Contains rest m → Contains (cond b (n ∷ rest) rest) m
tail_listed true n m rest h = Contains-append_right (n ∷ []) rest m h
tail_listed false n m rest h = h

-- what passes is listed
pub listed : {A : Type 0} (p : A → Bool) (n : ℕ) (xs : List A) (i : ℕ) (d : A) → i < length xs → p (get_or xs i d) ≡ true → Contains (places_from n p xs) (n + i)
listed p n [] i d h t = absurd (omega arith)
listed p n (x ∷ xs) zero d h t =
    let here : n ≡ n + 0 = omega arith in
    subst (λ (l : List ℕ). Contains l (n + 0)) (sym (places-cons p n x xs)) (subst (λ m. Contains (cond (p x) (n ∷ places_from (n + 1) p xs) (places_from (n + 1) p xs)) m) here (head_listed (p x) n (places_from (n + 1) p xs) t))
listed p n (x ∷ xs) (suc i) d h t =
    let there : n + 1 + i ≡ n + suc i = omega arith in
    subst (λ (l : List ℕ). Contains l (n + suc i)) (sym (places-cons p n x xs)) (tail_listed (p x) n (n + suc i) (places_from (n + 1) p xs) (subst (λ m. Contains (places_from (n + 1) p xs) m) there (listed p (n + 1) xs i d (omega arith) t)))

-- two numbers of a list are two places of it
pub two_listed : (ns : List ℕ) (i j : ℕ) → i < j → Contains ns i → Contains ns j → 2 ≤ length ns
two_listed ns i j h a b = apart (cases_eq a.0 b.0)
  where
    apart : (a.0 ≡ b.0) ⊎ (a.0 ≡ b.0 → ⊥) → 2 ≤ length ns
    apart (inl e) = absurd (same e)
      where
        same : a.0 ≡ b.0 → ⊥
        same e = omega (arith, differ e)
          where
            differ : a.0 ≡ b.0 → i ≡ j
            differ e = sym a.2 ∙ ap (λ k. get_or ns k i) e ∙ get_or_default ns b.0 i j b.1 ∙ b.2
    apart (inr ne) = omega (arith, a.1, b.1, ne)
