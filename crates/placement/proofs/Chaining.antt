-- The chains of the placements that are named, from the lowest number on.
use Rattle.std.proofs.Common.{◌≡◌, ℕ, ◌<◌, ◌≤◌, ◌⊎◌, inl, inr, List, length, get_or, Contains, IsPermutation, sym, ◌∙◌, subst, arith}
use Rattle.std.specs.List.Sorted.{IsNonDecreasing}
use Rattle.std.proofs.lemmas.List.{get_or_default}
use Rattle.std.proofs.lemmas.List.Sorted.{Contains-permutation, IsPermutation-sym}
use Rattle.std.proofs.lemmas.Bool.{cases_lt}
use Rattle.p21_values.specs.declared.value.Instance.{Instance}
use Rattle.placement.specs.declared.walk.Walk.{Walk}
use Rattle.placement.specs.Chains.{Ends, IsLeastLoop, AreChains}
use Rattle.placement.specs.inner.Walks.{Settled, AllReached}
use Rattle.placement.proofs.Visiting.{order_ends}

pub all_named : (named copied sorted : List ℕ) (id : ℕ) → copied ≡ named → IsPermutation copied sorted → Contains sorted id → Contains named id
all_named named copied sorted id e p c = subst (λ (xs : List ℕ). Contains xs id) e (Contains-permutation sorted copied id (IsPermutation-sym copied sorted p) c)

pub all_sorted : (named copied sorted : List ℕ) (id : ℕ) → copied ≡ named → IsPermutation copied sorted → Contains named id → Contains sorted id
all_sorted named copied sorted id e p c = Contains-permutation copied sorted id p (subst (λ (xs : List ℕ). Contains xs id) (sym e) c)

pub contains_at : (xs : List ℕ) (k : ℕ) → k < length xs → Contains xs (get_or xs k 0)
contains_at xs k lt = (k, lt, get_or_default xs k (get_or xs k 0) 0 lt)

-- those below the first that never ends have ends
pub least : (world : List Instance) (named copied sorted : List ℕ) (at : ℕ) → copied ≡ named → IsPermutation copied sorted → IsNonDecreasing sorted → at < length sorted
    → ((k : ℕ) → k < at → Ends world (get_or sorted k 0)) → (Ends world (get_or sorted at 0) → ⊥) → IsLeastLoop world named (get_or sorted at 0)
least world named copied sorted at e p up lt before none = record {
  listed = all_named named copied sorted (get_or sorted at 0) e p (contains_at sorted at lt);
  endless = none;
  least = λ lower c less.
      let there = all_sorted named copied sorted lower e p c in
      let same : get_or sorted there.0 0 ≡ lower = get_or_default sorted there.0 0 lower there.1 ∙ there.2 in
      elim (cases_lt there.0 at) [
        | inl first ↦ subst (λ n. Ends world n) same (before there.0 first)
        | inr later ↦ absurd (let rises : get_or sorted at 0 ≤ get_or sorted there.0 0 = up at there.0 0 later there.1 in omega (arith, rises, same, less))
      ];
}

pub chained : (world : List Instance) (named copied sorted : List ℕ) (walk : Walk) → copied ≡ named → IsPermutation copied sorted → Settled world walk → AllReached world named walk.order.items
    → ((k : ℕ) → k < length sorted → Contains walk.order.items (get_or sorted k 0)) → AreChains world named walk.order.items
chained world named copied sorted walk e p s reached visited = record {
  first = s.first;
  all = λ id c.
      let there = all_sorted named copied sorted id e p c in
      subst (λ n. Contains walk.order.items n) (get_or_default sorted there.0 0 id there.1 ∙ there.2) (visited there.0 there.1);
  reached = reached;
  ends = λ id c. order_ends world walk.order.items s.first id c;
  few = let room = s.ranked.room in let same = s.few in omega arith;
}
