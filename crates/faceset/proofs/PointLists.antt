-- How many points the list has that a set refers to.
use Rattle.std.proofs.Common.{◌≡◌, ◌≢◌, ◌⊎◌, inl, inr, ℕ, ◌<◌, ◌^◌, List, [], Option, Some, None, length, option_and_then, sym, ap, subst, ◌∙◌, arith}
use Rattle.std.proofs.lemmas.Option.{same_Some}
use Rattle.p21_values.specs.declared.value.Instance.{Instance}
use Rattle.p21_values.specs.Attributes.{reference_at}
use Rattle.p21_values.specs.InstanceLookup.{look}
use Rattle.faceset.specs.PointCounts.{AreCounts}
use Rattle.faceset.specs.Reaches.{PutsKept, kept_in}
use Rattle.faceset.specs.FaceSets.{points_of, listed_in, spelled_points}

-- they are those of the list of that number

pub points_at : (world : List Instance) (set : Instance) (id : ℕ) → reference_at set 0 ≡ Some id → spelled_points world set ≡ listed_in (look world id)
unfolding points_of
points_at world set id e = ap (λ (o : Option ℕ). listed_in (option_and_then (look world) o)) e

pub no_points : (world : List Instance) (set : Instance) → reference_at set 0 ≡ None → spelled_points world set ≡ []
unfolding points_of
no_points world set e = ap (λ (o : Option ℕ). listed_in (option_and_then (look world) o)) e

same_or : (a b : ℕ) → (a ≡ b) ⊎ (a ≢ b)
same_or a b = grind arith

-- one list more
pub counts_more : (world : List Instance) (old new : List (ℕ × ℕ)) (id n : ℕ) → n ≡ length (listed_in (look world id)) → n < 2 ^ 63 → PutsKept (kept_in old) (kept_in new) id n → AreCounts world old → AreCounts world new
counts_more world old new id n is few p are other kept there = elim (same_or other id) [
  | inl s ↦
      let k : n ≡ kept = same_Some n kept (sym p.here ∙ ap (kept_in new) (sym s) ∙ there) in
      (sym k ∙ is ∙ ap (λ (i : ℕ). length (listed_in (look world i))) (sym s), subst (λ (m : ℕ). m < 2 ^ 63) k few)
  | inr m ↦ are other kept (sym (p.others other m) ∙ there)
]
