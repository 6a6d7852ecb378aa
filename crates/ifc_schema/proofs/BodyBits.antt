-- The bit at a place says whether the instance there has a body.
use Rattle.std.proofs.Common.{◌≡◌, ℕ, ◌<◌, Bool, List, length, get_or, Some, sym, ap, ◌∙◌, subst}
use Rattle.std.specs.List.{slice_get}
use Rattle.std.proofs.lemmas.List.{get_or-map, length-map}
use Rattle.std.proofs.lemmas.Option.{get_or_from_slice_get}
use Rattle.p21_values.specs.declared.value.Instance.{Instance}
use Rattle.ifc_schema.specs.BodyRepresentations.{has_body, bodied_of}

pub bits_within : (world : List Instance) (bits : List Bool) (at : ℕ) → bits ≡ bodied_of world → at < length world → at < length bits
bits_within world bits at e lt = subst (λ (n : ℕ). at < n) (sym (ap length e ∙ length-map world (has_body world))) lt

pub bit_there : (world : List Instance) (bits : List Bool) (at : ℕ) (d : Bool) (i : Instance) → bits ≡ bodied_of world → at < length world → slice_get world at ≡ Some i
    → get_or bits at d ≡ has_body world i
bit_there world bits at d i e lt s =
    ap (λ (l : List Bool). get_or l at d) e ∙ (get_or-map (has_body world) world at i d lt ∙ ap (has_body world) (get_or_from_slice_get world at i i s))
