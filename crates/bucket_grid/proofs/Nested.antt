-- Lists in a list, seen through the vectors that keep them.
use Rattle.std.proofs.Common.{◌≡◌, ℕ, ◌+◌, ◌<◌, ◌⊎◌, inl, inr, List, [], ◌∷◌, ◌++◌, length, get_or, set, map, sym, ap, subst, arith, ◌∙◌}
use Rattle.std.proofs.lemmas.Bool.{cases_eq}
use Rattle.std.proofs.lemmas.List.{map-set, get_or-map, length-map, get_or-set_same, get_or-set_other}

module _ {V : Type 0} (f : V → List ℕ) where
  pub within : (l : List V) (now : List (List ℕ)) (i : ℕ) → map f l ≡ now → i < length now → i < length l
  within l now i e h = subst (λ n. i < n) (ap length (sym e) ∙ length-map l f) h

  -- a number put at the end of one of the lists
  pub put_in : (l : List V) (now : List (List ℕ)) (i n : ℕ) (old new : V) → map f l ≡ now → i < length now → old ≡ get_or l i old → f new ≡ f old ++ n ∷ [] → map f (set l i new) ≡ set now i (get_or now i [] ++ n ∷ [])
  put_in l now i n old new e h is made =
      subst (λ m. map f (set l i new) ≡ set m i (get_or m i [] ++ n ∷ [])) e
      (map-set f l i new ∙ ap (set (map f l) i) (made ∙ ap (λ x. x ++ n ∷ []) (ap f is ∙ sym (get_or-map f l i old [] (within l now i e h)))))

  -- one more list is emptied
  cleared_by : (l : List V) (i k : ℕ) (new : V) → i < length l → k < i + 1 → f new ≡ [] → ((k : ℕ) → k < i → get_or (map f l) k [] ≡ []) → (k ≡ i) ⊎ (k ≡ i → ⊥) → get_or (set (map f l) i (f new)) k [] ≡ []
  cleared_by l i k new h lt e before (inl same) = ap (λ m. get_or (set (map f l) i (f new)) m []) same ∙ get_or-set_same (map f l) i (f new) [] (subst (λ n. i < n) (sym (length-map l f)) h) ∙ e
  cleared_by l i k new h lt e before (inr other) = get_or-set_other (map f l) i k (f new) [] other ∙ before k (omega (arith, other))

  pub cleared_more : (l : List V) (i : ℕ) (new : V) → i < length l → f new ≡ [] → ((k : ℕ) → k < i → get_or (map f l) k [] ≡ []) → (k : ℕ) → k < i + 1 → get_or (map f (set l i new)) k [] ≡ []
  cleared_more l i new h e before k lt = ap (λ m. get_or m k []) (map-set f l i new) ∙ cleared_by l i k new h lt e before (cases_eq k i)
