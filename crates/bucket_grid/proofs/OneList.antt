-- Buckets whose members stand in one list: what is added at its end changes none that stand before it.
use Rattle.std.proofs.Common.{◌≡◌, ℕ, ◌≤◌, Bool, cond, List, [], ◌∷◌, ◌++◌, length, drop, map, refl, sym, ap, ap₂, arith, ◌∙◌}
use Rattle.std.specs.List.{All, between}
use Rattle.std.proofs.lemmas.Bool.{le-leb}
use Rattle.std.proofs.lemmas.List.{map_push, take-append-le, drop_at}
use Rattle.std.proofs.lemmas.List.Elements.{All-head, All-tail}
use Rattle.std.proofs.lemmas.Slice.{between_is, between_to_end}
use Rattle.bucket_grid.specs.declared.buckets.Slot.{Slot}
use Rattle.bucket_grid.specs.declared.cell.Cell.{Cell}
use Rattle.bucket_grid.specs.declared.bucket_table.Bucket.{Bucket}
use Rattle.bucket_grid.specs.inner.BucketSlots.{bucket_of, IsWithin}
use Rattle.bucket_grid.specs.BucketTable.{if_bucket}

abbrev with : Cell → List ℕ → Bucket
with cell members = record { cell = cell; members = members }

-- a part that ends before the new numbers is as it was
within_more : (list more : List ℕ) (i j : ℕ) → j ≤ length list → between i j (list ++ more) ≡ between i j list
within_more list more i j h = between_is (list ++ more) i j ∙ ap (drop i) (take-append-le j list more h) ∙ sym (between_is list i j)

same_buckets : (list more : List ℕ) (slots : List Slot) → All (IsWithin (length list)) slots → map (bucket_of (list ++ more)) slots ≡ map (bucket_of list) slots
same_buckets list more [] h = refl
same_buckets list more (s ∷ slots) h =
    ap₂ (λ (b : Bucket) (bs : List Bucket). b ∷ bs)
    (ap (with s.cell) (within_more list more s.start s.end (All-head (IsWithin (length list)) s slots h).within))
    (same_buckets list more slots (All-tail (IsWithin (length list)) s slots h))

-- the new numbers are the part from the old end to the new one
the_rest : (list more : List ℕ) (i j : ℕ) → i ≡ length list → j ≡ length (list ++ more) → between i j (list ++ more) ≡ more
the_rest list more i j e f = between_to_end (list ++ more) i j (omega (arith, f)) ∙ drop_at list more i (sym e)

-- a cell of two members or more is a bucket
is_bucket : (cell : Cell) (members : List ℕ) → 2 ≤ length members → with cell members ∷ [] ≡ if_bucket cell members
is_bucket cell members h = ap (λ (b : Bool). cond b (with cell members ∷ []) []) (sym (le-leb 2 (length members) h))

-- one more bucket, whose members are put at the end of the list
pub added : (list more : List ℕ) (slots : List Slot) (was : List Bucket) (s : Slot) → map (bucket_of list) slots ≡ was → All (IsWithin (length list)) slots → s.start ≡ length list → s.end ≡ length (list ++ more) → 2 ≤ length more → map (bucket_of (list ++ more)) (slots ++ s ∷ []) ≡ was ++ if_bucket s.cell more
added list more slots was s e h start end many =
    map_push (bucket_of (list ++ more)) slots s
    ∙ ap₂ (λ (bs cs : List Bucket). bs ++ cs) (same_buckets list more slots h ∙ e)
    (ap (λ (m : List ℕ). with s.cell m ∷ []) (the_rest list more s.start s.end start end) ∙ is_bucket s.cell more many)
