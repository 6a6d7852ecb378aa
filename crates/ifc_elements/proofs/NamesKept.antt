-- A name that is put beside others is read back, and they are as they were.
use Rattle.std.proofs.Common.{◌≡◌, ℕ, ◌==◌, inl, inr, List, Some, sym, ap, ◌∙◌}
use Rattle.std.proofs.lemmas.Bool.{cases_Bool, eqb-true, eqb-false}
use Rattle.p21_values.specs.declared.value.Instance.{Instance}
use Rattle.ifc_elements.specs.StoreyNames.{AreNames, PutsName, name_in}
use Rattle.ifc_elements.specs.ElementTexts.{name_at}

pub names_put : (world : List Instance) (old new : List (ℕ × List ℕ)) (id : ℕ) (name : List ℕ) → AreNames world old → name_at world id ≡ Some name → PutsName (name_in old) (name_in new) id name → AreNames world new
names_put world old new id name are at puts = λ other said e. elim (cases_Bool (other == id)) [
  | inl t ↦ (
      let same : other ≡ id = eqb-true other id t in
      ap (λ (n : ℕ). name_at world n) same ∙ at ∙ sym puts.here ∙ ap (λ (n : ℕ). name_in new n) (sym same) ∙ e)
  | inr f ↦ are other said (sym (puts.others other (λ s. eqb-false other id f s)) ∙ e)
]
