-- What values that refer to items show to be unsupported.
use Rattle.std.proofs.Common.{◌≡◌, ℕ, ◌⊎◌, inl, inr, true, List, [], ◌∷◌, ◌++◌, filter_map, Option, Some, None, Contains, refl, sym, subst, arith}
use Rattle.std.specs.List.{cons_option}
use Rattle.std.proofs.lemmas.List.Elements.{Contains-append_left, Contains-append_right, Contains-append_cases, filter_map-append}
use Rattle.p21_values.specs.declared.value.Value21.{Value21}
use Rattle.p21_values.specs.declared.value.Instance.{Instance}
use Rattle.p21_values.specs.InstanceLookup.{look}
use Rattle.p21_values.specs.Values.{reference_of}
use Rattle.ifc_schema.specs.BodyRepresentations.{is_body_representation}
use Rattle.ifc_elements.specs.Finding.{Finds}
use Rattle.ifc_elements.specs.Items.{spelled_items}
use Rattle.ifc_instances.specs.inner.Least.{LeastOf}
use Rattle.model_build.specs.inner.Showing.{lesser, HasOther, HasInner, BodyShows, MapShows}
use Rattle.model_build.proofs.LeastOfParts.{InParts, least_none, least_added, same_least, lesser_least}

-- one of the values refers to that instance, and it holds of it
abbrev pub Leads : List Instance → (Instance → Type 0) → List Value21 → ℕ → Type 0
Leads world P values id = Contains (filter_map reference_of values) id × Finds world id P

leads_parts : (world : List Instance) (P : Instance → Type 0) → InParts (Leads world P)
leads_parts world P = record {
  none = λ id h. (let lt = h.0.1 in omega arith);
  joined = λ xs ys id s. elim s [
    | inl h ↦ (join xs ys id (Contains-append_left (filter_map reference_of xs) (filter_map reference_of ys) id h.0), h.1)
    | inr h ↦ (join xs ys id (Contains-append_right (filter_map reference_of xs) (filter_map reference_of ys) id h.0), h.1)
  ];
  split = λ xs ys id h. elim (Contains-append_cases (filter_map reference_of xs) (filter_map reference_of ys) id (subst (λ ns. Contains ns id) (filter_map-append reference_of xs ys) h.0)) [
    | inl c ↦ inl (c, h.1)
    | inr c ↦ inr (c, h.1)
  ];
}
  where
    join : (xs ys : List Value21) (id : ℕ) → Contains (filter_map reference_of xs ++ filter_map reference_of ys) id → Contains (filter_map reference_of (xs ++ ys)) id
    join xs ys id c = subst (λ ns. Contains ns id) (sym (filter_map-append reference_of xs ys)) c

-- The form of a loop over such values.

pub leads_none : (world : List Instance) (P : Instance → Type 0) → LeastOf (Leads world P []) None
leads_none world P = least_none (Leads world P) (leads_parts world P)

pub leads_more : (world : List Instance) (P : Instance → Type 0) (vs : List Value21) (v : Value21) (old here : Option ℕ)
    → LeastOf (Leads world P vs) old → LeastOf (Leads world P (v ∷ [])) here → LeastOf (Leads world P (vs ++ v ∷ [])) (lesser old here)
leads_more world P vs v old here g h = least_added (Leads world P) vs v old here (leads_parts world P) g h

-- Of one value.

here : (o : Option ℕ) (id : ℕ) → o ≡ Some id → Contains (cons_option o []) id
here o id e = subst (λ p. Contains (cons_option p []) id) (sym e) (0, omega arith, refl)

-- Of the instance of a number.

pub finding : (world : List Instance) (id : ℕ) (i : Instance) (P : Instance → Type 0) → look world id ≡ Some i → Finds world id P → P i
finding world id i P e f = let same : f.instance ≡ i = (let g = f.found in cc) in subst P same f.holds

pub found_least : (world : List Instance) (from : ℕ) (i : Instance) (P : Instance → ℕ → Type 0) (found : Option ℕ) → look world from ≡ Some i → LeastOf (P i) found → LeastOf (λ id. Finds world from (λ j. P j id)) found
found_least world from i P found e h =
    same_least (P i) (λ id. Finds world from (λ j. P j id)) found (λ id p. record { instance = i; found = e; holds = p }) (λ id f. finding world from i (λ j. P j id) e f) h

-- Of representations.

pub body_least : (world : List Instance) (from : ℕ) (r : Instance) (items : List Value21) (found : Option ℕ) → Some r ≡ look world from → is_body_representation r ≡ true → items ≡ spelled_items r → LeastOf (HasOther world items) found
    → LeastOf (BodyShows world from) found
body_least world from r items found e body same h =
    found_least world from r (λ i id. (is_body_representation i ≡ true) × HasOther world (spelled_items i) id) found (sym e)
    (same_least (HasOther world (spelled_items r)) (λ id. (is_body_representation r ≡ true) × HasOther world (spelled_items r) id) found (λ id o. (body, o)) (λ id o. o.1)
    (subst (λ vs. LeastOf (HasOther world vs) found) same h))

pub map_least : (world : List Instance) (from : ℕ) (r : Instance) (items : List Value21) (a b found : Option ℕ) → Some r ≡ look world from → items ≡ spelled_items r → found ≡ lesser a b
    → LeastOf (HasOther world items) a → LeastOf (HasInner world items) b → LeastOf (MapShows world from) found
map_least world from r items a b found e same is g h =
    found_least world from r (λ i id. HasOther world (spelled_items i) id ⊎ HasInner world (spelled_items i) id) found (sym e)
    (subst (λ vs. LeastOf (λ id. HasOther world vs id ⊎ HasInner world vs id) found) same
    (subst (LeastOf (λ id. HasOther world items id ⊎ HasInner world items id)) (sym is) (lesser_least (HasOther world items) (HasInner world items) a b g h)))
