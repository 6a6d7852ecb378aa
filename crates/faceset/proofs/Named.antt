-- The faces that references lead to, value by value.
use Rattle.std.proofs.Common.{◌≡◌, ℕ, ◌+◌, ◌<◌, ◌≤◌, List, [], ◌∷◌, ◌++◌, length, get_or, take, drop, map, sum_by, sym, subst, ap, ◌∙◌, arith}
use Rattle.std.specs.List.{All, Any}
use Rattle.std.proofs.lemmas.List.{map-append}
use Rattle.std.proofs.lemmas.List.Elements.{All-append}
use Rattle.std.proofs.lemmas.List.Sums.{sum_by-append}
use Rattle.p21_values.specs.declared.value.Value21.{Value21}
use Rattle.p21_values.specs.declared.value.Instance.{Instance}
use Rattle.p21_values.specs.Attributes.{led_to}
use Rattle.ifc_instances.proofs.LedTo.{led_append, led_more, led_parts}
use Rattle.faceset.proofs.Anys.{any_left, any_right, all_not, not_any}

-- Something of each face, searched value by value.

pub mapped_more : {Y : Type 0} (f : Instance → Y) (P : Y → Type 0) (world : List Instance) (vs : List Value21) (v : Value21)
    → (Any P (map f (led_to world (v ∷ []))) → ⊥) → All (λ y. P y → ⊥) (map f (led_to world vs)) → All (λ y. P y → ⊥) (map f (led_to world (vs ++ v ∷ [])))
mapped_more f P world vs v none before =
    let joined : map f (led_to world (vs ++ v ∷ [])) ≡ map f (led_to world vs) ++ map f (led_to world (v ∷ [])) =
    ap (map f) (led_append world vs (v ∷ [])) ∙ map-append f (led_to world vs) (led_to world (v ∷ [])) in
    subst (All (λ y. P y → ⊥)) (sym joined)
    (All-append (λ y. P y → ⊥) (map f (led_to world vs)) (map f (led_to world (v ∷ []))) before (all_not P (map f (led_to world (v ∷ []))) none))

pub mapped_here : {Y : Type 0} (f : Instance → Y) (P : Y → Type 0) (world : List Instance) (vs : List Value21) (i : ℕ) (v : Value21) → i < length vs → v ≡ get_or vs i v
    → Any P (map f (led_to world (v ∷ []))) → Any P (map f (led_to world vs))
mapped_here f P world vs i v lt at any =
    let here : led_to world vs ≡ (led_to world (take i vs) ++ led_to world (v ∷ [])) ++ led_to world (drop (i + 1) vs) =
    led_parts world vs (i + 1) ∙ ap (λ fs. fs ++ led_to world (drop (i + 1) vs)) (led_more world vs i v lt at) in
    let joined : map f (led_to world vs) ≡ (map f (led_to world (take i vs)) ++ map f (led_to world (v ∷ []))) ++ map f (led_to world (drop (i + 1) vs)) =
    ap (map f) here ∙ map-append f (led_to world (take i vs) ++ led_to world (v ∷ [])) (led_to world (drop (i + 1) vs))
    ∙ ap (λ fs. fs ++ map f (led_to world (drop (i + 1) vs))) (map-append f (led_to world (take i vs)) (led_to world (v ∷ []))) in
    subst (Any P) (sym joined)
    (any_left P (map f (led_to world (take i vs)) ++ map f (led_to world (v ∷ []))) (map f (led_to world (drop (i + 1) vs)))
    (any_right P (map f (led_to world (take i vs))) (map f (led_to world (v ∷ []))) any))

pub mapped_never : {Y : Type 0} (f : Instance → Y) (P : Y → Type 0) (world : List Instance) (vs given : List Value21) → given ≡ vs
    → All (λ y. P y → ⊥) (map f (led_to world given)) → Any P (map f (led_to world vs)) → ⊥
mapped_never f P world vs given all none any =
    not_any P (map f (led_to world vs)) (subst (λ (us : List Value21). All (λ y. P y → ⊥) (map f (led_to world us))) all none) any

-- A number of each face, summed value by value.

pub summed_more : (f : Instance → ℕ) (world : List Instance) (vs : List Value21) (v : Value21)
    → sum_by f (led_to world (vs ++ v ∷ [])) ≡ sum_by f (led_to world vs) + sum_by f (led_to world (v ∷ []))
summed_more f world vs v = ap (sum_by f) (led_append world vs (v ∷ [])) ∙ sum_by-append f (led_to world vs) (led_to world (v ∷ []))

-- what the values so far and the next of them give is no more than what all give
pub summed_front : (f : Instance → ℕ) (world : List Instance) (vs given : List Value21) (v : Value21) → given ≡ take (length given) vs → length given < length vs → v ≡ get_or vs (length given) v
    → sum_by f (led_to world given) + sum_by f (led_to world (v ∷ [])) ≤ sum_by f (led_to world vs)
summed_front f world vs given v front lt at =
    let i = length given in
    let whole : sum_by f (led_to world vs) ≡ sum_by f (led_to world (take (i + 1) vs)) + sum_by f (led_to world (drop (i + 1) vs)) =
    ap (sum_by f) (led_parts world vs (i + 1)) ∙ sum_by-append f (led_to world (take (i + 1) vs)) (led_to world (drop (i + 1) vs)) in
    let more : sum_by f (led_to world (take (i + 1) vs)) ≡ sum_by f (led_to world (take i vs)) + sum_by f (led_to world (v ∷ [])) =
    ap (sum_by f) (led_more world vs i v lt at) ∙ sum_by-append f (led_to world (take i vs)) (led_to world (v ∷ [])) in
    let so_far = ap (λ (us : List Value21). sum_by f (led_to world us)) front in
    omega (arith, whole, more, so_far)
