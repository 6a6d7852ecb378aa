-- Identifiers that differ from those beside them once they are sorted differ all.
use Rattle.std.proofs.Common.{◌≡◌, ◌≢◌, ℕ, ◌+◌, ◌-◌, ◌<◌, ◌≤◌, ◌⊎◌, inl, inr, Bool, true, false, List, [], ◌∷◌, length, map, get_or, refl, sym, ◌∙◌, subst, ap, arith}
use Rattle.std.proofs.lemmas.Bool.{cases_Bool}
use Rattle.std.specs.Bool.{OnTrue}
use Rattle.std.specs.List.{AllPairs}
use Rattle.std.specs.List.Sorted.{IsSorted, IsPermutation}
use Rattle.std.specs.Str.{bytes_eq}
use Rattle.std.specs.Ordering.{nat_cmp, is_lt, ordering_reverse}
use Rattle.std.specs.Cmp.Lexicographic.{slice_cmp}
use Rattle.std.specs.declared.cmp.Ordering.{Ordering}
use Rattle.std.specs.declared.cmp.Ordering.TheVariants.{Less, Equal, Greater}
use Rattle.std.proofs.lemmas.Slice.Eq.{bytes_eq-Decides}
use Rattle.std.proofs.lemmas.List.{get_or_default, get_or-map, length-map}
use Rattle.std.proofs.lemmas.List.Sorted.{sorted_far, ranks_by, IsPermutation-sym}
use Rattle.std.proofs.lemmas.Map.Keys.{IsDistinct-IsPermutation}
use Rattle.std.proofs.lemmas.Map.Made.{AllPairs-from_IsDistinct, IsDistinct-from_AllPairs}
use Rattle.std.proofs.lemmas.Cmp.{nat_list_cmp_total}
use Rattle.std.proofs.lemmas.Map.Lookups.{exact_bytes}
use Rattle.bim_model.specs.declared.element.Element.{Element}
use Rattle.model_walk.specs.declared.sketch_list.Sketch.{Sketch}
use Rattle.model_walk.specs.declared.element_sketches.Stock.{Stock}
use Rattle.model_walk.specs.Checked.{Alternate, Differ}
use Rattle.model_walk.specs.Sketches.{elements_of}
use Rattle.model_walk.proofs.ElementsSurfaced.{guid_chars, same_guids}
use Rattle.model_walk.proofs.KeysDiffer.{from_keys}

alike : (xs ys : List ℕ) → bytes_eq xs ys ≡ true → bytes_eq ys xs ≡ true
alike xs ys t = (bytes_eq-Decides ys xs).1 (sym ((bytes_eq-Decides xs ys).0 t))

flips : (xs ys : List ℕ) → bytes_eq xs ys ≡ bytes_eq ys xs
flips xs ys = elim (cases_Bool (bytes_eq xs ys)) [
  | inl t ↦ t ∙ sym (alike xs ys t)
  | inr f ↦ elim (cases_Bool (bytes_eq ys xs)) [
    | inl t ↦ absurd (let u = alike ys xs t in cc)
    | inr g ↦ f ∙ sym g
  ]
]

-- keys that differ do so in any order
keys_differ : (xs ys : List (List ℕ)) → IsPermutation xs ys → AllPairs (λ a b. a ≢ b) ys → AllPairs (λ a b. a ≢ b) xs
keys_differ xs ys p d = AllPairs-from_IsDistinct bytes_eq-Decides xs (IsDistinct-IsPermutation bytes_eq flips ys xs (IsPermutation-sym xs ys p) (IsDistinct-from_AllPairs bytes_eq-Decides ys d))

equal : (o : Ordering) → is_lt o ≡ false → is_lt (ordering_reverse o) ≡ false → o ≡ Equal
equal Less l r = cc
equal Equal l r = refl
equal Greater l r = cc

-- of two that are the same, in order, the one after the first is the same too
sorted_differ : (ys : List (List ℕ)) → IsSorted (slice_cmp nat_cmp) ys → Alternate ys → AllPairs (λ a b. a ≢ b) ys
sorted_differ ys up beside i j d lt within same =
    let a = get_or ys i d in
    let b = get_or ys (i + 1) d in
    let far : (k n : ℕ) → k ≤ n → n < length ys → is_lt (slice_cmp nat_cmp (get_or ys n d) (get_or ys k d)) ≡ false = λ k n le w. sorted_far (λ x y. is_lt (slice_cmp nat_cmp x y)) (ranks_by nat_list_cmp_total (λ (x : List ℕ). x)) ys up k n d le w in
    let first : is_lt (slice_cmp nat_cmp b a) ≡ false = far i (i + 1) (omega arith) (omega (arith, lt, within)) in
    let last : is_lt (slice_cmp nat_cmp a b) ≡ false = subst (λ x. is_lt (slice_cmp nat_cmp x b) ≡ false) (sym same) (far (i + 1) j (omega (arith, lt)) within) in
    beside i d (omega (arith, lt, within)) (exact_bytes a b (equal (slice_cmp nat_cmp a b) last (subst (λ o. is_lt o ≡ false) (nat_list_cmp_total.antisymm b a) first)))

pub elements_differ : (elements : List Element) (guids : List (List ℕ)) → IsPermutation (map (λ (e : Element). e.guid.chars) elements) guids → IsSorted (slice_cmp nat_cmp) guids → Alternate guids → Differ elements
elements_differ elements guids p up beside = from_keys guid_chars elements (keys_differ (map guid_chars elements) guids p (sorted_differ guids up beside))

to_keys : {X : Type 0} (key : X → List ℕ) (xs : List X) → AllPairs (λ x y. key x ≢ key y) xs → AllPairs (λ a b. a ≢ b) (map key xs)
to_keys key [] h i j d lt within same = absurd (omega (arith, within))
to_keys key (x ∷ xs) h i j d lt within same =
    let m : j < length (x ∷ xs) = rw (sym (length-map (x ∷ xs) key)) within in
    let n : i < length (x ∷ xs) = omega (arith, lt, m) in
    h i j x lt m (sym (get_or-map key (x ∷ xs) i x d n) ∙ same ∙ get_or-map key (x ∷ xs) j x d m)

-- they do so with their surfaces too
pub surfaces_differ : (stock : Stock) (elements : List Element) (sketches : List Sketch) → length elements ≡ length sketches → Differ elements → Differ (elements_of stock elements sketches)
surfaces_differ stock elements sketches same differ =
    from_keys guid_chars (elements_of stock elements sketches) (subst (λ (gs : List (List ℕ)). AllPairs (λ a b. a ≢ b) gs) (sym (same_guids stock elements sketches same)) (to_keys guid_chars elements differ))

-- two more that differ
pub apart_more : (guids : List (List ℕ)) (at : ℕ) (b : Bool) → 1 ≤ at → at < length guids → b ≡ bytes_eq (get_or guids (at - 1) []) (get_or guids at []) → b ≡ false → ((k : ℕ) (d : List ℕ) → k + 1 < at → get_or guids k d ≢ get_or guids (k + 1) d)
    → (k : ℕ) (d : List ℕ) → k + 1 < at + 1 → get_or guids k d ≢ get_or guids (k + 1) d
apart_more guids at b from within test differs before k d lt same = elim (below k at lt) [
  | inl l ↦ before k d l same
  | inr e ↦ (
      let p : at - 1 ≡ k = omega (arith, e) in
      let a : get_or guids (at - 1) [] ≡ get_or guids k d = ap (λ n. get_or guids n []) p ∙ get_or_default guids k [] d (omega (arith, e, within)) in
      let z : get_or guids (k + 1) d ≡ get_or guids at [] = get_or_default guids (k + 1) d [] (omega (arith, e, within)) ∙ ap (λ n. get_or guids n []) e in
      let t = (bytes_eq-Decides (get_or guids (at - 1) []) (get_or guids at [])).1 (a ∙ same ∙ z) in
      absurd (cc))
]
  where
    below : (k at : ℕ) → k + 1 < at + 1 → (k + 1 < at) ⊎ (k + 1 ≡ at)
    below k at lt = grind arith

-- what follows from what a test says
pub on_true : {P Q : Type 0} (b : Bool) → (P → Q) → OnTrue b P → OnTrue b Q
on_true true f h = f h
on_true false f h = tt
