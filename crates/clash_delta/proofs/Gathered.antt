-- The sets of buckets that are all done.
use Rattle.std.proofs.Common.{◌≡◌, ℕ, zero, ◌+◌, ◌<◌, ◌≤◌, Bool, true, false, cond, List, [], ◌∷◌, ◌++◌, length, get_or, take, drop, map, filter, Option, Some, None, IfSome, is_none, is_some, not, true≢false, refl, sym, ap, ap₂, subst, arith, ◌∙◌}
use Rattle.std.specs.List.{All, AllZip}
use Rattle.std.specs.Option.{unwrap_or}
use Rattle.std.proofs.lemmas.List.{take_more, take_all, map-append, length-map}
use Rattle.std.proofs.lemmas.List.Elements.{All-head, All-tail, All-nil, All-cons}
use Rattle.bucket_grid.specs.declared.cell.Cell.{Cell}
use Rattle.bucket_grid.specs.declared.bucket_table.Bucket.{Bucket}
use Rattle.bucket_grid.specs.Grids.{GridValue}
use Rattle.bucket_check.specs.ClashSets.{SetValue, IsSetOf}
use Rattle.clash_delta.specs.declared.slot.Slot.{Slot}
use Rattle.clash_delta.specs.BucketProgress.{cells_of, undone_cells, undone_slots, IsOf}
use Rattle.clash_delta.proofs.Undone.{nothing}

abbrev set_of : Slot → Option SetValue
set_of s = s.set

chosen : (b : Bool) (s : Slot) (ss : List Slot) → length (cond b (s ∷ ss) ss) ≡ 0 → (b ≡ false) × (length ss ≡ 0)
chosen true s ss e = absurd (omega arith)
chosen false s ss e = (refl, e)

-- where none is left, each bucket has a set
some_each : (slots : List Slot) → length (undone_slots slots) ≡ 0 → All (λ (s : Slot). is_none s.set ≡ false) slots
some_each [] e = All-nil (λ (s : Slot). is_none s.set ≡ false)
some_each (s ∷ ss) e =
    let c = chosen (is_none s.set) s (undone_slots ss) e in
    All-cons (λ (t : Slot). is_none t.set ≡ false) s ss c.0 (some_each ss c.1)

pub all_some : (slots : List Slot) → length (undone_cells slots) ≡ 0 → All (λ (s : Slot). is_none s.set ≡ false) slots
all_some slots e = some_each slots (sym (length-map (undone_slots slots) (λ (s : Slot). s.cell)) ∙ e)

-- one more set
pub sets_more : (sets new : List SetValue) (slots : List Slot) (i : ℕ) (s : Slot) → i < length slots → s ≡ get_or slots i s → is_some s.set ≡ true → map (λ (y : SetValue). Some y) sets ≡ map set_of (take i slots) → ((d : SetValue) → new ≡ sets ++ unwrap_or s.set d ∷ [])
    → map (λ (y : SetValue). Some y) new ≡ map set_of (take (i + 1) slots)
sets_more sets new slots i s h e some before made = by s.set refl
  where
    by : (o : Option SetValue) → s.set ≡ o → map (λ (y : SetValue). Some y) new ≡ map set_of (take (i + 1) slots)
    by None f = absurd (true≢false (sym some ∙ ap is_some f))
    by (Some x) f =
        ap (map (λ (y : SetValue). Some y)) (made x ∙ ap (λ o. sets ++ unwrap_or o x ∷ []) f) ∙ map-append (λ (y : SetValue). Some y) sets (x ∷ [])
        ∙ ap₂ (λ l o. l ++ o ∷ []) before (sym f ∙ ap set_of e) ∙ sym (map-append set_of (take i slots) (get_or slots i s ∷ [])) ∙ ap (map set_of) (sym (take_more slots i s h))

-- each has a set
pub some_at : (slots : List Slot) (i : ℕ) (s : Slot) → length (undone_cells slots) ≡ 0 → i < length slots → s ≡ get_or slots i s → is_some s.set ≡ true
some_at slots i s e h f = by (is_some s.set) refl
  where
    none : is_none s.set ≡ false
    none = subst (λ (t : Slot). is_none t.set ≡ false) (sym f) (all_some slots e i s h)

    by : (b : Bool) → is_some s.set ≡ b → is_some s.set ≡ true
    by true g = g
    by false g = absurd (true≢false (sym (ap not g) ∙ none))

abbrev first_set : (l : List (Option SetValue)) → Option SetValue
first_set [] = None
first_set (o ∷ os) = o

abbrev first_cell : (l : List Cell) → Cell
first_cell [] = nothing.cell
first_cell (c ∷ cs) = c

-- the sets are right, one for each bucket of the grid
pub sets_right : (grid : GridValue) (bs : List Bucket) (slots : List Slot) (sets : List SetValue) → cells_of slots ≡ map (λ (b : Bucket). b.cell) bs → All (λ (s : Slot). IfSome s.set (IsSetOf grid s.cell)) slots → map (λ (y : SetValue). Some y) sets ≡ map set_of slots
    → AllZip (λ (b : Bucket) (s : SetValue). IsSetOf grid b.cell s) bs sets
sets_right grid [] [] [] c r e = tt
sets_right grid [] [] (x ∷ xs) c r e = absurd (omega (arith, ap length e))
sets_right grid [] (s ∷ ss) sets c r e = absurd (omega (arith, ap length c))
sets_right grid (b ∷ bs) [] sets c r e = absurd (omega (arith, ap length c))
sets_right grid (b ∷ bs) (s ∷ ss) [] c r e = absurd (omega (arith, ap length e))
sets_right grid (b ∷ bs) (s ∷ ss) (x ∷ xs) c r e =
    let set : s.set ≡ Some x = sym (ap first_set e) in
    let right : IfSome s.set (IsSetOf grid s.cell) = All-head (λ (t : Slot). IfSome t.set (IsSetOf grid t.cell)) s ss r in
    let there : IfSome (Some x) (IsSetOf grid s.cell) = subst (λ o. IfSome o (IsSetOf grid s.cell)) set right in
    let cell : s.cell ≡ b.cell = ap first_cell c in (
      subst (λ k. IsSetOf grid k x) cell there,
      sets_right grid bs ss xs (ap (drop 1) c) (All-tail (λ (t : Slot). IfSome t.set (IsSetOf grid t.cell)) s ss r) (ap (drop 1) e),
    )
