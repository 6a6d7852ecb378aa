-- The buckets that aren't done, by their places.
use Rattle.std.proofs.Common.{◌≡◌, ℕ, ◌+◌, ◌-◌, ◌<◌, ◌≤◌, ◌⊎◌, inl, inr, pos, Bool, true, false, List, [], ◌∷◌, length, get_or, map, filter, reverse, Option, Some, None, IsSome, is_none, true≢false, refl, sym, ap, subst, arith, ◌∙◌}
use Rattle.std.specs.List.{All, Any, AllPairs, slice_get}
use Rattle.std.specs.declared.cmp.Ordering.TheVariants.{Less}
use Rattle.std.proofs.lemmas.Bool.{cases_order}
use Rattle.std.proofs.lemmas.List.{length-map, get_or-map, length-reverse, get_or-reverse, get_or_default}
use Rattle.std.proofs.lemmas.List.Elements.{filter_passes, All-contains}
use Rattle.std.proofs.lemmas.Option.{slice_get-get_or, slice_get_past}
use Rattle.box_lanes.specs.BoxPlaces.{places_from}
use Rattle.bucket_grid.specs.declared.cell.Cell.{Cell}
use Rattle.bucket_grid.specs.Cells.{cell_cmp}
use Rattle.bucket_check.specs.ClashSets.{SetValue}
use Rattle.clash_delta.specs.declared.slot.Slot.{Slot}
use Rattle.clash_delta.specs.BucketProgress.{cells_of, undone_slots, undone_cells, IsBucketOf, IsDone}
use Rattle.clash_delta.specs.BucketPlaces.{Rise, IsPlaceOf, undone_places}
use Rattle.clash_delta.proofs.Cells.{not_less}
use Rattle.clash_delta.proofs.Listed.{inside, mapped}

abbrev pub undone : Slot → Bool
undone s = is_none s.set

-- what stands past the end of a list of buckets
abbrev pub nothing : Slot
nothing = record { cell = record { x = pos 0; y = pos 0; z = pos 0 }; set = None }

pub undone_count : (slots : List Slot) → length (undone_places slots) ≡ length (undone_cells slots)
undone_count slots =
    let places : List ℕ = places_from 0 undone slots in
    length-reverse places ∙ sym (length-map places (λ k. (get_or slots k nothing).cell)) ∙ ap length (mapped undone (λ (s : Slot). s.cell) slots nothing)

-- the bucket at a place of those that aren't done
pub record IsUndoneAt (slots : List Slot) (place at : ℕ) : Type 0 where
  pub within : at < length slots
  pub cell : (d : Slot) → slice_get (undone_cells slots) place ≡ Some (get_or slots at d).cell
  pub none : (d : Slot) → is_none (get_or slots at d).set ≡ true

passes : (slots : List Slot) (k : ℕ) (d : Slot) → k < length (places_from 0 undone slots) → undone (get_or slots (get_or (places_from 0 undone slots) k 0) d) ≡ true
passes slots k d h =
    let places : List ℕ = places_from 0 undone slots in
    let e : map (λ j. get_or slots j d) places ≡ undone_slots slots = mapped undone (λ (s : Slot). s) slots d ∙ map_itself (undone_slots slots) in
    let l : k < length (undone_slots slots) = omega (arith, h, ap length e, length-map places (λ j. get_or slots j d)) in
    let t : undone (get_or (undone_slots slots) k d) ≡ true = filter_passes undone slots k d l in
    subst (λ (s : Slot). undone s ≡ true) (sym (ap (λ xs. get_or xs k d) e) ∙ get_or-map (λ j. get_or slots j d) places k 0 d h) t
  where
    map_itself : (xs : List Slot) → map (λ (s : Slot). s) xs ≡ xs
    map_itself [] = refl
    map_itself (x ∷ xs) = ap (λ l. x ∷ l) (map_itself xs)

pub undone_at : (slots : List Slot) (l : List ℕ) (place at : ℕ) → l ≡ undone_places slots → place < length l → at ≡ get_or l (length l - 1 - place) 0 → IsUndoneAt slots place at
undone_at slots l place at e h f =
    let places : List ℕ = places_from 0 undone slots in
    let count : length l ≡ length places = ap length e ∙ length-reverse places in
    let here : place < length places = omega (arith, h, count) in
    let index : length places - 1 - (length l - 1 - place) ≡ place = omega (arith, h, count) in
    let is : at ≡ get_or places place 0 =
    f ∙ ap (λ m. get_or m (length l - 1 - place) 0) e ∙ get_or-reverse places (length l - 1 - place) 0 (omega (arith, h, count)) ∙ ap (λ i. get_or places i 0) index in
    let in_it : get_or places place 0 < length slots = inside undone slots place 0 here in
    let cells : map (λ k. (get_or slots k nothing).cell) places ≡ undone_cells slots = mapped undone (λ (s : Slot). s.cell) slots nothing in
    let many : place < length (undone_cells slots) = omega (arith, here, ap length cells, length-map places (λ k. (get_or slots k nothing).cell)) in
    record {
      within = omega (arith, is, in_it);
      cell =
          λ d. slice_get-get_or (undone_cells slots) place nothing.cell many
          ∙ ap Some
          (ap (λ m. get_or m place nothing.cell) (sym cells) ∙ get_or-map (λ k. (get_or slots k nothing).cell) places place 0 nothing.cell here
          ∙ ap (λ (s : Slot). s.cell) (get_or_default slots (get_or places place 0) nothing d in_it) ∙ ap (λ k. (get_or slots k d).cell) (sym is));
      none = λ d. subst (λ k. undone (get_or slots k d) ≡ true) (sym is) (passes slots place d here);
    }

-- there are no more
pub no_more : (slots : List Slot) (l : List ℕ) (place : ℕ) → l ≡ undone_places slots → length l ≤ place → slice_get (undone_cells slots) place ≡ None
no_more slots l place e h = slice_get_past (undone_cells slots) place (omega (arith, h, ap length e, undone_count slots))

-- ---- buckets by their cells
-- a cell stands at one place
pub one_place : (slots : List Slot) (cell : Cell) (place j : ℕ) (s : Slot) → Rise slots → IsPlaceOf slots cell place → j < length slots → get_or slots j s ≡ s → s.cell ≡ cell → (j ≡ place) ⊎ ((j < place) ⊎ (place < j)) → j ≡ place
one_place slots cell place j s rise at l e f (inl same) = same
one_place slots cell place j s rise at l e f (inr (inl lt)) =
    absurd (not_less (get_or slots j s).cell (get_or slots place s).cell (ap (λ (t : Slot). t.cell) e ∙ f ∙ sym (at.is s)) (rise j place s lt at.within))
one_place slots cell place j s rise at l e f (inr (inr gt)) =
    absurd (not_less (get_or slots place s).cell (get_or slots j s).cell (at.is s ∙ sym (ap (λ (t : Slot). t.cell) e ∙ f)) (rise place j s gt l))

-- a bucket that stands at a place
pub bucket_at : (slots : List Slot) (cell : Cell) (place : ℕ) → IsPlaceOf slots cell place → IsBucketOf slots cell
bucket_at slots cell place at = (place, get_or slots place nothing, at.within, get_or_default slots place (get_or slots place nothing) nothing at.within, at.is nothing)

-- it is done where it has a set
pub done_at : (slots : List Slot) (cell : Cell) (place : ℕ) (s : Slot) → IsPlaceOf slots cell place → s ≡ get_or slots place s → IsSome s.set → IsDone slots cell
done_at slots cell place s at e some = (place, s, at.within, sym e, (ap (λ (t : Slot). t.cell) e ∙ at.is s, some))

some_not_none : (o : Option SetValue) → is_none o ≡ true → IsSome o → ⊥
some_not_none None e some = true≢false (sym some)
some_not_none (Some x) e some = true≢false (sym e)

-- what holds of the bucket that is done
pub fact : {X : Type 0} (P : X → Type 0) (xs : List X) (a : Any P xs) → P a.1
fact P xs a = a.4

-- and isn't where it has none
pub not_done_at : (slots : List Slot) (cell : Cell) (place : ℕ) (s : Slot) → Rise slots → IsPlaceOf slots cell place → s ≡ get_or slots place s → is_none s.set ≡ true → IsDone slots cell → ⊥
not_done_at slots cell place s rise at e none done =
    let t : Slot = done.1 in
    let f = fact (λ (u : Slot). (u.cell ≡ cell) × IsSome u.set) slots done in
    let same : done.0 ≡ place = one_place slots cell place done.0 t rise at done.2 done.3 f.0 (cases_order done.0 place) in
    let is : t ≡ s = sym done.3 ∙ ap (λ k. get_or slots k t) same ∙ get_or_default slots place t s at.within ∙ sym e in
    some_not_none s.set none (subst (λ (u : Slot). IsSome u.set) is f.1)
