-- A bucket that is given its set.
use Rattle.std.proofs.Common.{◌≡◌, ℕ, ◌+◌, ◌<◌, ◌⊎◌, inl, inr, Bool, true, false, cond, List, [], ◌∷◌, length, get_or, map, set, Option, Some, None, IfSome, is_none, true≢false, refl, sym, ap, ap₂, subst, arith, ◌∙◌, length-set}
use Rattle.std.specs.List.{All, AllPairs}
use Rattle.std.specs.Option.{unwrap_or}
use Rattle.std.specs.declared.cmp.Ordering.TheVariants.{Less}
use Rattle.std.proofs.lemmas.Bool.{cases_eq, cases_order}
use Rattle.std.proofs.lemmas.List.{length-map, get_or-map, ext_get_or, get_or-set_same, get_or-set_other, get_or_default}
use Rattle.bucket_grid.specs.declared.cell.Cell.{Cell}
use Rattle.bucket_grid.specs.declared.bucket_table.Bucket.{Bucket}
use Rattle.bucket_grid.specs.Cells.{cell_cmp}
use Rattle.bucket_grid.specs.Grids.{GridValue}
use Rattle.bucket_check.specs.Clashes.{is_cell}
use Rattle.bucket_check.specs.ClashSets.{SetValue, own_places, IsSetOf}
use Rattle.bucket_check.proofs.Merged.{same_cell, one_cell}
use Rattle.clash_delta.specs.declared.slot.Slot.{Slot}
use Rattle.clash_delta.specs.BucketProgress.{cells_of, filled, bucket_cells, IsOf}
use Rattle.clash_delta.specs.BucketPlaces.{Rise, IsPlaceOf}
use Rattle.clash_delta.proofs.Undone.{nothing, one_place}

abbrev slot : Cell → Option SetValue → Slot
slot cell set = record { cell = cell; set = set }

-- one that has a set keeps it
kept : (b : Bool) (o : Option SetValue) (s : SetValue) → is_none o ≡ false → cond b (Some (unwrap_or o s)) o ≡ o
kept true (Some x) s e = refl
kept true None s e = absurd (true≢false e)
kept false o s e = refl

filled_kept : (s : SetValue) (t : Slot) → is_none t.set ≡ false → filled s t ≡ t
filled_kept s t e = ap (slot t.cell) (kept (is_cell t.cell s.work.cell) t.set s e)

filled_other : (s : SetValue) (t : Slot) → is_cell t.cell s.work.cell ≡ false → filled s t ≡ t
filled_other s t e = ap (λ b. slot t.cell (cond b (Some (unwrap_or t.set s)) t.set)) e

filled_given : (s : SetValue) (t : Slot) → is_cell t.cell s.work.cell ≡ true → t.set ≡ None → filled s t ≡ slot t.cell (Some s)
filled_given s t e f = ap (λ b. slot t.cell (cond b (Some (unwrap_or t.set s)) t.set)) e ∙ ap (λ o. slot t.cell (Some (unwrap_or o s))) f

-- a bucket at another place is of another cell
other_cell : (slots : List Slot) (s : SetValue) (place j : ℕ) → Rise slots → IsPlaceOf slots s.work.cell place → j < length slots → (j ≡ place → ⊥) → is_cell (get_or slots j nothing).cell s.work.cell ≡ false
other_cell slots s place j rise at h ne = by (is_cell (get_or slots j nothing).cell s.work.cell) refl
  where
    by : (b : Bool) → is_cell (get_or slots j nothing).cell s.work.cell ≡ b → b ≡ false
    by false e = refl
    by true e =
        let t : Slot = get_or slots j nothing in
        absurd (ne (one_place slots s.work.cell place j t rise at h (get_or_default slots j t nothing h) (one_cell t.cell s.work.cell e) (cases_order j place)))

-- the bucket of the cell is given the set, the others stay
pub all_filled : (slots : List Slot) (s : SetValue) (place : ℕ) (t : Slot) → Rise slots → IsPlaceOf slots s.work.cell place → ((d : Slot) → (get_or slots place d).set ≡ None) → t.cell ≡ s.work.cell → t.set ≡ Some s → set slots place t ≡ map (filled s) slots
all_filled slots s place t rise at none c f =
    ext_get_or nothing (set slots place t) (map (filled s) slots) (length-set slots place t ∙ sym (length-map slots (filled s)))
    (λ j h. each j (omega (arith, h, length-set slots place t)) (cases_eq j place))
  where
    each : (j : ℕ) → j < length slots → (j ≡ place) ⊎ (j ≡ place → ⊥) → get_or (set slots place t) j nothing ≡ get_or (map (filled s) slots) j nothing
    each j h (inl e) =
        let u : Slot = get_or slots place nothing in
        let whole : t ≡ slot u.cell (Some s) = ap₂ slot (c ∙ sym (at.is nothing)) f in
        let same : is_cell u.cell s.work.cell ≡ true = ap (λ k. is_cell k s.work.cell) (at.is nothing) ∙ same_cell s.work.cell in
        ap (λ k. get_or (set slots place t) k nothing) e ∙ get_or-set_same slots place t nothing at.within ∙ whole ∙ sym (filled_given s u same (none nothing))
        ∙ sym (get_or-map (filled s) slots place nothing nothing at.within) ∙ ap (λ k. get_or (map (filled s) slots) k nothing) (sym e)
    each j h (inr ne) =
        get_or-set_other slots place j t nothing ne ∙ sym (filled_other s (get_or slots j nothing) (other_cell slots s place j rise at h ne))
        ∙ sym (get_or-map (filled s) slots j nothing nothing h)

-- where the bucket of the cell has a set, all stay
pub none_filled : (slots : List Slot) (s : SetValue) (place : ℕ) → Rise slots → IsPlaceOf slots s.work.cell place → ((d : Slot) → is_none (get_or slots place d).set ≡ false) → slots ≡ map (filled s) slots
none_filled slots s place rise at some =
    ext_get_or nothing slots (map (filled s) slots) (sym (length-map slots (filled s))) (λ j h. sym (get_or-map (filled s) slots j nothing nothing h ∙ each j h (cases_eq j place)))
  where
    each : (j : ℕ) → j < length slots → (j ≡ place) ⊎ (j ≡ place → ⊥) → filled s (get_or slots j nothing) ≡ get_or slots j nothing
    each j h (inl e) = filled_kept s (get_or slots j nothing) (ap (λ k. is_none (get_or slots k nothing).set) e ∙ some nothing)
    each j h (inr ne) = filled_other s (get_or slots j nothing) (other_cell slots s place j rise at h ne)

-- ---- cells stay, and so does their order
pub filled_cells : (s : SetValue) (slots : List Slot) → cells_of (map (filled s) slots) ≡ cells_of slots
filled_cells s [] = refl
filled_cells s (t ∷ ts) = ap (λ l. t.cell ∷ l) (filled_cells s ts)

pub rise_by : {A B : Type 0} (f : A → Cell) (g : B → Cell) (xs : List A) (ys : List B) (d : A) → map f xs ≡ map g ys → AllPairs (λ a b. cell_cmp (f a) (f b) ≡ Less) xs → AllPairs (λ a b. cell_cmp (g a) (g b) ≡ Less) ys
rise_by f g xs ys d same rise i j e lt within =
    let count : length xs ≡ length ys = sym (length-map xs f) ∙ ap length same ∙ length-map ys g in
    let read : (k : ℕ) → k < length ys → f (get_or xs k d) ≡ g (get_or ys k e) = λ k h.
    sym (get_or-map f xs k d (f d) (omega (arith, h, count))) ∙ get_or_default (map f xs) k (f d) (g e) (omega (arith, h, count, length-map xs f))
    ∙ ap (λ l. get_or l k (g e)) same ∙ get_or-map g ys k e (g e) h in
    subst (λ c. cell_cmp c (g (get_or ys j e)) ≡ Less) (read i (omega (arith, lt, within)))
    (subst (λ c. cell_cmp (f (get_or xs i d)) c ≡ Less) (read j within) (rise i j d lt (omega (arith, within, count))))

pub rise_filled : (s : SetValue) (slots : List Slot) → Rise slots → Rise (map (filled s) slots)
rise_filled s slots rise = rise_by (λ (t : Slot). t.cell) (λ (t : Slot). t.cell) slots (map (filled s) slots) nothing (sym (filled_cells s slots)) rise

-- ---- the sets stay right
right_one : (grid : GridValue) (s : SetValue) (cell : Cell) (b : Bool) (o : Option SetValue) → s.work.grid ≡ grid → s.pairs ≡ own_places s.work.grid s.work.cell → is_cell cell s.work.cell ≡ b → IfSome o (IsSetOf grid cell) → IfSome (cond b (Some (unwrap_or o s)) o) (IsSetOf grid cell)
right_one grid s cell true None g p e h =
    let c : s.work.cell ≡ cell = sym (one_cell cell s.work.cell e) in
    record { grid_is = g; cell_is = c; pairs_are = p ∙ ap₂ own_places g c }
right_one grid s cell true (Some x) g p e h = h
right_one grid s cell false o g p e h = h

pub filled_of : (grid : GridValue) (s : SetValue) (slots : List Slot) → s.pairs ≡ own_places s.work.grid s.work.cell → IsOf grid slots → s.work.grid ≡ grid → IsOf grid (map (filled s) slots)
filled_of grid s slots p of g = record {
  buckets = filled_cells s slots ∙ of.buckets;
  right = λ i d h.
      let l : i < length slots = omega (arith, h, length-map slots (filled s)) in
      let t : Slot = get_or slots i nothing in
      subst (λ (u : Slot). IfSome u.set (IsSetOf grid u.cell)) (sym (get_or-map (filled s) slots i nothing d l))
      (right_one grid s t.cell (is_cell t.cell s.work.cell) t.set g p refl (of.right i nothing l));
}
