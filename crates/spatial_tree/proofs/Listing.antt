-- How storeys are listed, and the first fault is found.
use Rattle.std.proofs.Common.{◌≡◌, ℕ, ◌+◌, ◌<◌, ◌≤◌, inl, inr, Bool, true, false, List, [], ◌∷◌, ◌++◌, length, get_or, Contains, sym, ap, ◌∙◌, subst, arith}
use Rattle.std.proofs.lemmas.Bool.{both_ways}
use Rattle.std.specs.List.Sorted.{IsPermutation}
use Rattle.std.proofs.lemmas.Option.{slice_get-get_or, slice_get_within, get_or_from_slice_get}
use Rattle.std.proofs.lemmas.List.Sorted.{Contains-permutation, IsPermutation-sym}
use Rattle.std.proofs.lemmas.List.Elements.{Contains-append_left, Contains-push, Contains-push_cases}
use Rattle.p21_values.specs.declared.value.Instance.{Instance}
use Rattle.p21_values.proofs.Turns.{one_more}
use Rattle.ifc_instances.specs.declared.entity.Entity.TheVariants.{Storey}
use Rattle.ifc_instances.specs.EntityLookup.{is_a}
use Rattle.spatial_tree.specs.declared.step.Step.{Step}
use Rattle.spatial_tree.specs.declared.mark.Mark.{Mark}
use Rattle.spatial_tree.specs.declared.mark.Mark.TheVariants.{Looped}
use Rattle.spatial_tree.specs.inner.StoreyMarks.{mark_at}
use Rattle.spatial_tree.specs.Trees.{ListsStoreyIds}
use Rattle.spatial_tree.specs.inner.TreeFaults.{IsFaulty}
use Rattle.spatial_tree.proofs.Adding.{AnyBefore, before_more, before_kept, before_here, any_from_before, before_from_any}

abbrev pub IsStoreyOfId : ℕ → Instance → Type 0
IsStoreyOfId id i = (i.id ≡ id) × (is_a Storey i ≡ true)

-- the storeys among the first instances
pub record IdsBefore (world : List Instance) (at : ℕ) (ids : List ℕ) : Type 0 where
  pub sound : (id : ℕ) → Contains ids id → AnyBefore (IsStoreyOfId id) world at
  pub all : (id : ℕ) → AnyBefore (IsStoreyOfId id) world at → Contains ids id

pub ids_pushed : (world given : List Instance) (i : Instance) (xs ys : List ℕ) → (length given < length world) × (i ≡ get_or world (length given) i) → ys ≡ xs ++ i.id ∷ [] → is_a Storey i ≡ true
    → IdsBefore world (length given) xs → IdsBefore world (length (given ++ i ∷ [])) ys
ids_pushed world given i xs ys at e k b = subst (λ n. IdsBefore world n ys) (one_more given i) (record {
  sound = λ id c. elim (Contains-push_cases xs i.id id (subst (λ l. Contains l id) e c)) [
    | inl h ↦ before_kept (IsStoreyOfId id) world (length given) (b.sound id h)
    | inr s ↦ before_here (IsStoreyOfId id) world (length given) i at.0 at.1 (s, k)
  ];
  all = λ id a. subst (λ l. Contains l id) (sym e) (elim (before_more (IsStoreyOfId id) world (length given) i at.0 at.1 a) [
    | inl h ↦ Contains-append_left xs (i.id ∷ []) id (b.all id h)
    | inr h ↦ subst (λ n. Contains (xs ++ i.id ∷ []) n) h.0 (Contains-push xs i.id)
  ]);
})

pub ids_passed : (world given : List Instance) (i : Instance) (xs : List ℕ) → (length given < length world) × (i ≡ get_or world (length given) i) → is_a Storey i ≡ false
    → IdsBefore world (length given) xs → IdsBefore world (length (given ++ i ∷ [])) xs
ids_passed world given i xs at k b = subst (λ n. IdsBefore world n xs) (one_more given i) (record {
  sound = λ id c. before_kept (IsStoreyOfId id) world (length given) (b.sound id c);
  all = λ id a. elim (before_more (IsStoreyOfId id) world (length given) i at.0 at.1 a) [
    | inl h ↦ b.all id h
    | inr h ↦ absurd (both_ways (is_a Storey i) k h.1)
  ];
})

pub ids_all : (world : List Instance) (at : ℕ) (xs ys : List ℕ) → length world ≤ at → IsPermutation xs ys → IdsBefore world at xs → ListsStoreyIds world ys
ids_all world at xs ys l p b = record {
  sound = λ id c. any_from_before (IsStoreyOfId id) world at (b.sound id (Contains-permutation ys xs id (IsPermutation-sym xs ys p) c));
  all = λ id a. Contains-permutation xs ys id p (b.all id (before_from_any (IsStoreyOfId id) world at l a));
}

-- Faults.

pub not_faulty : (steps : List Step) (marks : List Mark) (at : ℕ) (d : Step) → (get_or steps at d).torn ≡ false → (mark_at marks at ≡ Looped → ⊥) → IsFaulty steps marks at → ⊥
not_faulty steps marks at d t m f = elim f.wrong [
  | inl i ↦ both_ways (get_or steps at d).torn t (ap (λ (s : Step). s.torn) (get_or_from_slice_get steps at f.step d f.there) ∙ i)
  | inr e ↦ m e
]

pub none_faulty : (steps : List Step) (marks : List Mark) (count : ℕ) → length steps ≤ count → ((k : ℕ) → k < count → IsFaulty steps marks k → ⊥) → (k : ℕ) → IsFaulty steps marks k → ⊥
none_faulty steps marks count l n k f = n k (let b = slice_get_within steps k f.step f.there in omega arith) f

pub fault_within : (steps : List Step) (marks : List Mark) (at : ℕ) → IsFaulty steps marks at → at < length steps
fault_within steps marks at f = slice_get_within steps at f.step f.there
