-- The instances that references lead to, value by value.
use Rattle.std.proofs.Common.{◌≡◌, ℕ, ◌+◌, ◌<◌, List, [], ◌∷◌, ◌++◌, length, get_or, take, drop, filter_map, Option, Some, None, sym, ap, ◌∙◌, refl}
use Rattle.std.specs.List.{cons_option}
use Rattle.std.proofs.lemmas.List.{take_more, take-append-drop}
use Rattle.std.proofs.lemmas.List.Elements.{filter_map-append}
use Rattle.p21_values.specs.declared.value.Value21.{Value21}
use Rattle.p21_values.specs.declared.value.Instance.{Instance}
use Rattle.p21_values.specs.InstanceLookup.{look}
use Rattle.p21_values.specs.Values.{reference_of}
use Rattle.p21_values.specs.Attributes.{led_to}

pub led_append : (world : List Instance) (xs ys : List Value21) → led_to world (xs ++ ys) ≡ led_to world xs ++ led_to world ys
led_append world xs ys = ap (filter_map (look world)) (filter_map-append reference_of xs ys) ∙ filter_map-append (look world) (filter_map reference_of xs) (filter_map reference_of ys)

-- one more value
pub led_more : (world : List Instance) (vs : List Value21) (i : ℕ) (v : Value21) → i < length vs → v ≡ get_or vs i v
    → led_to world (take (i + 1) vs) ≡ led_to world (take i vs) ++ led_to world (v ∷ [])
led_more world vs i v lt at =
    let more : take (i + 1) vs ≡ take i vs ++ v ∷ [] = take_more vs i v lt ∙ ap (λ x. take i vs ++ x ∷ []) (sym at) in
    ap (led_to world) more ∙ led_append world (take i vs) (v ∷ [])

-- a value that is no reference leads to nothing
pub led_none : (world : List Instance) (v : Value21) → reference_of v ≡ None → led_to world (v ∷ []) ≡ []
led_none world v none = from (reference_of v) none
  where
    from : (r : Option ℕ) → r ≡ None → filter_map (look world) (cons_option r []) ≡ []
    from r e = rw e refl

-- nor does one that refers to nothing
pub led_nowhere : (world : List Instance) (v : Value21) (id : ℕ) → reference_of v ≡ Some id → look world id ≡ None → led_to world (v ∷ []) ≡ []
led_nowhere world v id is none = from (reference_of v) is
  where
    from : (r : Option ℕ) → r ≡ Some id → filter_map (look world) (cons_option r []) ≡ []
    from r e = rw (e, none) refl

-- any other leads to one
pub led_one : (world : List Instance) (v : Value21) (id : ℕ) (instance : Instance) → reference_of v ≡ Some id → look world id ≡ Some instance → led_to world (v ∷ []) ≡ instance ∷ []
led_one world v id instance is found = from (reference_of v) is
  where
    from : (r : Option ℕ) → r ≡ Some id → filter_map (look world) (cons_option r []) ≡ instance ∷ []
    from r e = rw (e, found) refl

-- the first values, and those after them
pub led_parts : (world : List Instance) (vs : List Value21) (i : ℕ) → led_to world vs ≡ led_to world (take i vs) ++ led_to world (drop i vs)
led_parts world vs i = ap (led_to world) (sym (take-append-drop i vs)) ∙ led_append world (take i vs) (drop i vs)
