-- The triangles of the faces that references lead to, value by value.
use Rattle.std.proofs.Common.{◌≡◌, ℕ, ◌+◌, ◌<◌, List, [], ◌∷◌, ◌++◌, length, take, drop, get_or, sum_by, Any, ◌∙◌, ap, arith}
use Rattle.std.proofs.lemmas.List.{length-append}
use Rattle.p21_values.specs.declared.value.Value21.{Value21}
use Rattle.p21_values.specs.declared.value.Instance.{Instance}
use Rattle.bim_model.specs.declared.geometry.Triangle.{Triangle}
use Rattle.p21_values.specs.Attributes.{led_to}
use Rattle.faceset.specs.FaceSets.{face_count, Joined}
use Rattle.faceset.proofs.Anys.{any_left, any_right}
use Rattle.ifc_instances.proofs.LedTo.{led_append, led_more, led_parts}
use Rattle.faceset.proofs.Named.{summed_more}
use Rattle.faceset.proofs.Joins.{joined_append}

-- One more value.

pub joined_more : (Gives : Instance → List Triangle → Type 0) (world : List Instance) (vs : List Value21) (v : Value21) (old part new : List Triangle)
    → new ≡ old ++ part → Joined Gives (led_to world vs) old → Joined Gives (led_to world (v ∷ [])) part → Joined Gives (led_to world (vs ++ v ∷ [])) new
joined_more Gives world vs v old part new grown before more =
    rw (led_append world vs (v ∷ []), grown) (joined_append Gives (led_to world vs) (led_to world (v ∷ [])) old part before more)

pub count_more : (world : List Instance) (vs : List Value21) (v : Value21) (old part new : List Triangle)
    → new ≡ old ++ part → length old ≡ sum_by face_count (led_to world vs) → length part ≡ sum_by face_count (led_to world (v ∷ []))
    → length new ≡ sum_by face_count (led_to world (vs ++ v ∷ []))
count_more world vs v old part new grown before more =
    let sum = summed_more face_count world vs v in
    let long = ap length grown ∙ length-append old part in
    omega (arith, sum, long, before, more)

pub any_here : (P : Instance → Type 0) (world : List Instance) (vs : List Value21) (i : ℕ) (v : Value21) → i < length vs → v ≡ get_or vs i v
    → Any P (led_to world (v ∷ [])) → Any P (led_to world vs)
any_here P world vs i v lt at any =
    let here : led_to world vs ≡ (led_to world (take i vs) ++ led_to world (v ∷ [])) ++ led_to world (drop (i + 1) vs) =
    led_parts world vs (i + 1) ∙ ap (λ (fs : List Instance). fs ++ led_to world (drop (i + 1) vs)) (led_more world vs i v lt at) in
    rw here (any_left P (led_to world (take i vs) ++ led_to world (v ∷ [])) (led_to world (drop (i + 1) vs)) (any_right P (led_to world (take i vs)) (led_to world (v ∷ [])) any))
