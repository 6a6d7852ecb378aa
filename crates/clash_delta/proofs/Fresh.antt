-- A progress of which no bucket is done.
use Rattle.std.proofs.Common.{◌≡◌, ℕ, ◌<◌, List, [], ◌∷◌, length, get_or, map, suc, Option, Some, None, IfSome, IsSome, true≢false, refl, sym, ap, subst, arith, ◌∙◌}
use Rattle.std.specs.List.{All, AllPairs}
use Rattle.std.specs.declared.cmp.Ordering.TheVariants.{Less}
use Rattle.std.proofs.lemmas.List.{length-map, get_or-map, get_or_default}
use Rattle.bucket_grid.specs.declared.cell.Cell.{Cell}
use Rattle.bucket_grid.specs.declared.bucket_table.Bucket.{Bucket}
use Rattle.bucket_grid.specs.Cells.{cell_cmp}
use Rattle.bucket_grid.specs.Grids.{GridValue}
use Rattle.bucket_check.specs.ClashSets.{SetValue, IsSetOf}
use Rattle.clash_delta.specs.declared.slot.Slot.{Slot}
use Rattle.clash_delta.specs.BucketProgress.{cells_of, bucket_cells, undone_cells, IsDone, IsOf}
use Rattle.clash_delta.specs.BucketPlaces.{Rise}
use Rattle.clash_delta.proofs.Undone.{nothing, fact}
use Rattle.clash_delta.proofs.Filled.{rise_by}

-- a bucket that isn't done
abbrev pub empty : Bucket → Slot
empty b = record { cell = b.cell; set = None }

abbrev no_bucket : Bucket
no_bucket = record { cell = nothing.cell; members = [] }

empty_cells : (bs : List Bucket) → cells_of (map empty bs) ≡ map (λ (b : Bucket). b.cell) bs
empty_cells [] = refl
empty_cells (b ∷ bs) = ap (λ l. b.cell ∷ l) (empty_cells bs)

pub empty_rise : (bs : List Bucket) → AllPairs (λ (b c : Bucket). cell_cmp b.cell c.cell ≡ Less) bs → Rise (map empty bs)
empty_rise bs rise = rise_by (λ (b : Bucket). b.cell) (λ (s : Slot). s.cell) bs (map empty bs) no_bucket (sym (empty_cells bs)) rise

empty_at : (bs : List Bucket) (i : ℕ) (d : Slot) → i < length (map empty bs) → (get_or (map empty bs) i d).set ≡ None
empty_at bs i d h = ap (λ (s : Slot). s.set) (get_or-map empty bs i no_bucket d (omega (arith, h, length-map bs empty)))

none_not_some : (o : Option SetValue) → o ≡ None → IsSome o → ⊥
none_not_some None e some = true≢false (sym some)
none_not_some (Some x) e some = cc

pub empty_none : (bs : List Bucket) (cell : Cell) → IsDone (map empty bs) cell → ⊥
empty_none bs cell done =
    let f = fact (λ (s : Slot). (s.cell ≡ cell) × IsSome s.set) (map empty bs) done in
    none_not_some done.1.set (ap (λ (s : Slot). s.set) (sym done.3) ∙ empty_at bs done.0 done.1 done.2) f.1

pub empty_of : (grid : GridValue) → IsOf grid (map empty grid.buckets)
empty_of grid = record {
  buckets = empty_cells grid.buckets;
  right = λ i d h. subst (λ o. IfSome o (IsSetOf grid (get_or (map empty grid.buckets) i d).cell)) (sym (empty_at grid.buckets i d h)) tt;
}

pub empty_left : (bs : List Bucket) → length (undone_cells (map empty bs)) ≡ length bs
empty_left [] = refl
empty_left (b ∷ bs) = ap suc (empty_left bs)

-- where nothing is done, what holds of each set holds
pub none_all : (P : Cell → SetValue → Type 0) (slots : List Slot) → ((cell : Cell) → IsDone slots cell → ⊥) → All (λ (s : Slot). IfSome s.set (P s.cell)) slots
none_all P slots never i d h = by (get_or slots i d).set refl
  where
    by : (o : Option SetValue) → (get_or slots i d).set ≡ o → IfSome o (P (get_or slots i d).cell)
    by None e = tt
    by (Some x) e =
        let s : Slot = get_or slots i d in
        absurd (never s.cell (i, s, h, get_or_default slots i s d h, (refl, subst (λ (o : Option SetValue). IsSome o) (sym e) refl)))
