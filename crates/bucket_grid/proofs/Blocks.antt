-- Lists in blocks with marks: what clearing and adding keep.
use Rattle.std.proofs.Common.{◌≡◌, ℕ, ◌/◌, ◌<◌, ◌⊎◌, inl, inr, Bool, true, false, List, [], length, get_or, set, map, sym, ap, arith, ◌∙◌}
use Rattle.std.proofs.lemmas.Bool.{cases_eq, false≢true}
use Rattle.std.proofs.lemmas.List.{map-set, length-map, length-set, get_or-set_same, get_or-set_other}
use Rattle.bucket_grid.specs.inner.ListBlocks.{AreMarked}

true_false : {A : Type 0} → true ≡ false → A
true_false e = absurd (false≢true (sym e))

module _ {V : Type 0} (f : V → List ℕ) where
  emptied : (l : List V) (i k : ℕ) (new : V) → i < length l → f new ≡ [] → get_or (map f l) k [] ≡ [] → (k ≡ i) ⊎ (k ≡ i → ⊥) → get_or (set (map f l) i (f new)) k [] ≡ []
  emptied l i k new h e before (inl same) = ap (λ m. get_or (set (map f l) i (f new)) m []) same ∙ get_or-set_same (map f l) i (f new) [] (omega (arith, length-map l f)) ∙ e
  emptied l i k new h e before (inr other) = get_or-set_other (map f l) i k (f new) [] other ∙ before

  -- a list of a marked block is emptied
  pub still_marked : (l : List V) (marks : List Bool) (i : ℕ) (new : V) → i < length l → f new ≡ [] → AreMarked (map f l) marks → AreMarked (map f (set l i new)) marks
  still_marked l marks i new h e m = record {
    enough = omega (arith, m.enough, length-map l f, length-map (set l i new) f, length-set l i new);
    empty = λ k clear. ap (λ x. get_or x k []) (map-set f l i new) ∙ emptied l i k new h e (m.empty k clear) (cases_eq k i);
  }

  unmarked : (marks : List Bool) (b c : ℕ) → b < length marks → get_or (set marks b true) c true ≡ false → (c ≡ b) ⊎ (c ≡ b → ⊥) → (c ≡ b → ⊥) × (get_or marks c true ≡ false)
  unmarked marks b c h e (inl same) = true_false (sym (ap (λ m. get_or (set marks b true) m true) same ∙ get_or-set_same marks b true true h) ∙ e)
  unmarked marks b c h e (inr other) = (other, sym (get_or-set_other marks b c true true other) ∙ e)

  -- a list of a block that is marked then may become any
  pub marked_at : (l : List V) (marks : List Bool) (i : ℕ) (new : V) → i < length l → AreMarked (map f l) marks → AreMarked (map f (set l i new)) (set marks (i / 16) true)
  marked_at l marks i new h m = record {
    enough = omega (arith, m.enough, length-map l f, length-map (set l i new) f, length-set l i new, length-set marks (i / 16) true);
    empty = λ k clear.
        let u = unmarked marks (i / 16) (k / 16) (omega (arith, m.enough, length-map l f)) clear (cases_eq (k / 16) (i / 16)) in
        ap (λ x. get_or x k []) (map-set f l i new) ∙ get_or-set_other (map f l) i k (f new) [] (λ e. u.0 (ap (λ n. n / 16) e)) ∙ m.empty k u.1;
  }
