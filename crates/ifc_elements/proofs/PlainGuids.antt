-- Identifiers are spelled as they are.
use Rattle.std.proofs.Common.{◌≡◌, ℕ, List, Option, Some, sym, ap, ◌∙◌, subst, option_map, option_and_then}
use Rattle.std.specs.List.{slice_get}
use Rattle.bim_model.specs.Guids.{IsGuid}
use Rattle.bim_text.specs.TextSpellings.{text_of_spelling}
use Rattle.bim_text.proofs.PlainGuids.{guid_said}
use Rattle.p21_values.specs.declared.value.Instance.{Instance}
use Rattle.p21_values.specs.declared.value.Value21.{Value21}
use Rattle.p21_values.specs.Values.{words_of}
use Rattle.ifc_elements.specs.ElementTexts.{guid_of}

guid_spelled : (bs : List ℕ) → IsGuid bs → text_of_spelling bs ≡ bs
guid_spelled bs guid = guid_said bs guid.1

guid_there : (i : Instance) (value : Value21) (spelled : List ℕ) → Some value ≡ slice_get i.values 0 → Some spelled ≡ words_of value → IsGuid spelled → guid_of i ≡ Some spelled
guid_there i value spelled there words guid =
    ap (λ (o : Option Value21). option_map text_of_spelling (option_and_then words_of o)) (sym there) ∙ ap (option_map text_of_spelling) (sym words) ∙ ap Some (guid_spelled spelled guid)

-- what is read of the bytes of the first attribute
pub guid_read : (i : Instance) (value : Value21) (spelled chars : List ℕ) → Some value ≡ slice_get i.values 0 → words_of value ≡ Some spelled → IsGuid spelled → chars ≡ spelled
    → (guid_of i ≡ Some chars) × IsGuid chars
guid_read i value spelled chars there words is same = (guid_there i value spelled there (sym words) is ∙ ap (λ (bs : List ℕ). Some bs) (sym same), subst IsGuid (sym same) is)
