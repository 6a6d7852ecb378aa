-- An object stands in one storey at most, and a file has one fault of its tree.
use Rattle.std.proofs.Common.{◌≡◌, ℕ, ◌<◌, ◌⊎◌, inl, inr, List, refl, sym, ap, ◌∙◌, subst, arith}
use Rattle.bim_model.specs.declared.upload.UploadFault.{UploadFault}
use Rattle.bim_model.specs.declared.upload.UploadFault.TheVariants as faults
use Rattle.p21_values.specs.declared.value.Instance.{Instance}
use Rattle.p21_values.proofs.PlaceLemmas.{trichotomy}
use Rattle.spatial_tree.specs.Relations.{HasContainer, HasWhole, IsStorey}
use Rattle.spatial_tree.specs.Climbing.{IsNext, IsFirstStorey}
use Rattle.spatial_tree.specs.Climbing as climbing
use Rattle.spatial_tree.specs.Trees.{Next, StoreyOf, LeastTreeFault, IsTree}

one_next : (C W : ℕ → ℕ → Type 0) (o a b : ℕ) → IsNext C W o a → IsNext C W o b → a ≡ b
one_next C W o a b (inl h) (inl k) = k.only a h.has
one_next C W o a b (inl h) (inr k) = absurd (k.0 a h.has)
one_next C W o a b (inr h) (inl k) = absurd (h.0 b k.has)
one_next C W o a b (inr h) (inr k) = k.1.only a h.1.has

one_first : (N : ℕ → ℕ → Type 0) (S : ℕ → Type 0) → ((o a b : ℕ) → N o a → N o b → a ≡ b) → (o s t : ℕ) → IsFirstStorey N S o s → IsFirstStorey N S o t → s ≡ t
one_first N S one _ _ t (climbing.found o s n i) k = from_found N S one o s t n i k
  where
    from_found : (N : ℕ → ℕ → Type 0) (S : ℕ → Type 0) → ((o a b : ℕ) → N o a → N o b → a ≡ b) → (o s t : ℕ) → N o s → S s → IsFirstStorey N S o t → s ≡ t
    from_found N S one _ s _ n i (climbing.found o t m j) = one o s t n m
    from_found N S one _ s _ n i (climbing.beyond o u t m other f) = absurd (other (subst S (one o s u n m) i))
one_first N S one _ _ t (climbing.beyond o v s n other f) k = elim (split N S o t k) [
  | inl h ↦ absurd (other (subst S (one o t v h.0 n) h.1))
  | inr h ↦ one_first N S one v s t f (subst (λ x. IsFirstStorey N S x t) (one o h.0 v h.1 n) h.2)
]
  where
    split : (N : ℕ → ℕ → Type 0) (S : ℕ → Type 0) (o t : ℕ) → IsFirstStorey N S o t → (N o t × S t) ⊎ ((u : ℕ) × N o u × IsFirstStorey N S u t)
    split N S _ _ (climbing.found o t m j) = inl (m, j)
    split N S _ _ (climbing.beyond o u t m other f) = inr (u, m, f)

pub one_storey : (world : List Instance) (o s t : ℕ) → StoreyOf world o s → StoreyOf world o t → s ≡ t
one_storey world o s t h k = one_first (Next world) (IsStorey world) (one_next (HasContainer world) (HasWhole world)) o s t h k

pub one_tree_fault : (world : List Instance) (f g : UploadFault) → LeastTreeFault world f → LeastTreeFault world g → f ≡ g
one_tree_fault world f g h k = elim (trichotomy h.id k.id) [
  | inl below ↦ absurd (k.least h.id below h.flawed)
  | inr rest ↦ elim rest [
    | inl same ↦ h.told ∙ ap faults.TreeFault same ∙ sym k.told
    | inr above ↦ absurd (h.least k.id above k.flawed)
  ]
]

pub tree_apart : (world : List Instance) (f : UploadFault) → IsTree world → LeastTreeFault world f → ⊥
tree_apart world f tree h = tree h.id h.flawed
