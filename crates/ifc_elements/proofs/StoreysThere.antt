-- The storeys that elements stand in.
use Rattle.std.proofs.Common.{◌≡◌, ℕ, zero, suc, ◌<◌, inl, inr, Contains, ◌==◌, true, List, [], ◌∷◌, length, get_or, None, ap, ◌∙◌, arith}
use Rattle.std.proofs.lemmas.Bool.{cases_Bool}
use Rattle.std.proofs.lemmas.Bool.Decides.{nat_tests}
use Rattle.p21_values.specs.declared.value.Instance.{Instance}
use Rattle.p21_values.specs.InstanceLookup.{look}
use Rattle.spatial_tree.specs.Climbing.{IsFirstStorey}
use Rattle.spatial_tree.specs.Climbing as climbing
use Rattle.spatial_tree.specs.Relations.{IsStorey}
use Rattle.spatial_tree.specs.declared.storey_tree.Placed.{Placed}
use Rattle.spatial_tree.specs.Placing.{placed}
use Rattle.spatial_tree.specs.Trees.{StoreyOf, Next, ListsStoreys}

-- a first storey is a storey
first_is_storey : (N : ℕ → ℕ → Type 0) (S : ℕ → Type 0) (object storey : ℕ) → IsFirstStorey N S object storey → S storey
first_is_storey N S _ _ (climbing.found object storey n s) = s
first_is_storey N S _ _ (climbing.beyond object above storey n o f) = first_is_storey N S above storey f

same_id : (a b : ℕ) → a ≡ b → (a == b) ≡ true
same_id a b e = grind (arith, nat_tests)

-- where an instance has the number, the number leads to one
looked_up : (world : List Instance) (id at : ℕ) (i : Instance) → at < length world → get_or world at i ≡ i → i.id ≡ id → look world id ≡ None → ⊥
unfolding look
looked_up [] id at i lt is e none = absurd (omega arith)
looked_up (j ∷ js) id zero i lt is e none = (let t = same_id j.id id (ap (λ (k : Instance). k.id) is ∙ e) in let m = rw t at none in cc)
looked_up (j ∷ js) id (suc at) i lt is e none = elim (cases_Bool (j.id == id)) [
  | inl t ↦ (let m = rw t at none in cc)
  | inr f ↦ (let m = rw f at none in looked_up js id at i (omega arith) is e m)
]

-- the storey that an object stands in is an instance of the file
pub storey_there : (world : List Instance) (object storey : ℕ) → StoreyOf world object storey → look world storey ≡ None → ⊥
storey_there world object storey f none =
    let s = first_is_storey (Next world) (IsStorey world) object storey f in
    looked_up world storey s.0 s.1 s.2 s.3 s.4.0 none

-- where no storey is listed for an object, it stands in none
pub no_storey : (world : List Instance) (list : List Placed) (object : ℕ) → ListsStoreys world list → ((storey : ℕ) → Contains list (placed object storey) → ⊥) → (storey : ℕ) → StoreyOf world object storey → ⊥
no_storey world list object l h storey f = h storey (l.all object storey f)
