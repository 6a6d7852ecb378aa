-- Texts that spell no identifier.
use Rattle.std.proofs.Common.{◌≡◌, ℕ, List, Option, Some, None, option_map, refl}
use Rattle.std.specs.Int.{from_be_bytes, w128}
use Rattle.uuid.specs.Text.{parsed}
use Rattle.bcf_bodies.specs.Members.{if_identifier}

none_by : (o : Option (List ℕ)) → (((u : List ℕ) × (o ≡ Some u)) → ⊥) → option_map (λ bytes. from_be_bytes w128 bytes) o ≡ None
none_by None never = refl
none_by (Some u) never = absurd (never (u, refl))

pub none_in : (text : List ℕ) → (((u : List ℕ) × (parsed text ≡ Some u)) → ⊥) → if_identifier text ≡ None
unfolding if_identifier
none_in text never = none_by (parsed text) never
