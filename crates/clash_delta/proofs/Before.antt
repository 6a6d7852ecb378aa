-- The numbers that the members of a bucket had, and the members that they were.
use Rattle.std.proofs.Common.{◌≡◌, ◌↔◌, ℕ, ◌+◌, ◌<◌, ◌≤◌, ◌⊎◌, Bool, IsTrue, List, [], ◌∷◌, ◌++◌, length, get_or, take, map, Option, Some, None, MatchOption, refl, sym, ap, subst, arith, ◌∙◌}
use Rattle.std.specs.List.{All, AllPairs, AllZip}
use Rattle.std.proofs.lemmas.Bool.{cases_order}
use Rattle.std.proofs.lemmas.List.{take_more, get_or_default}
use Rattle.std.proofs.lemmas.List.Elements.{All-head, All-tail}
use Rattle.bim_model.specs.declared.geometry.Extent.{Extent}
use Rattle.bim_model.specs.Keys.{Subject, key_of, IsBelow}
use Rattle.bucket_grid.specs.declared.cell.Cell.{Cell}
use Rattle.bucket_grid.specs.declared.bucket_table.Bucket.{Bucket}
use Rattle.bucket_grid.specs.Cells.{holds, members}
use Rattle.bucket_grid.specs.Grids.{GridValue}
use Rattle.bucket_grid.specs.BucketTable.{IsTable}
use Rattle.bucket_grid.specs.Subjects.{subject_at, nobody, IsBoxOf, AreBoxes}
use Rattle.bucket_grid.proofs.Rising.{places_within}
use Rattle.bucket_grid.proofs.Zips.{zip_at, zip_length, zip_push}
use Rattle.bucket_check.specs.ClashSets.{IsSame, subjects_at}
use Rattle.clash_delta.specs.inner.ElementNumbers.{subjects, HadNumber, IsNumberBefore, AreNumbersBefore, AllBelow, AreFrom}
use Rattle.clash_delta.specs.Carried.{IsUnmovedAt}
use Rattle.clash_delta.proofs.Keys.{below_trans, one_number}

module _ (before after : List Subject) (numbers : List (Option ℕ)) (rising : AllPairs IsBelow before) (are : AreNumbersBefore before after numbers) where
  number_of : (n : ℕ) → n < length after → IsNumberBefore before (subject_at after n) (get_or numbers n None)
  number_of n h = zip_at (IsNumberBefore before) after numbers n nobody None are h

  had : (s : Subject) (n : Option ℕ) (o : ℕ) → n ≡ Some o → IsNumberBefore before s n → HadNumber before s o
  had s n o e h = subst (IsNumberBefore before s) e h

  had_it : (s : Subject) (o : ℕ) (n : Option ℕ) → HadNumber before s o → IsNumberBefore before s n → n ≡ Some o
  had_it s o None h never = absurd (never o h)
  had_it s o (Some m) h k = ap Some (one_number before rising m o k.within h.within (k.same.key ∙ sym h.same.key) (cases_order m o))

  -- members that had these numbers are the same
  pub members_same : (old new : List ℕ) → All (λ n. n < length after) new → AreFrom numbers old new → AllZip IsSame (map (subject_at before) old) (map (subject_at after) new)
  members_same [] [] h from = from
  members_same [] (n ∷ ns) h from = absurd from
  members_same (o ∷ os) [] h from = absurd from
  members_same (o ∷ os) (n ∷ ns) h from =
      let lt : n < length after = All-head (λ k. k < length after) n ns h in
      let it : HadNumber before (subject_at after n) o = had (subject_at after n) (get_or numbers n None) o from.0 (number_of n lt) in
      (it.same, members_same os ns (All-tail (λ k. k < length after) n ns h) from.1)

  -- members that are the same had these numbers
  pub members_from : (old new : List ℕ) → All (λ n. n < length before) old → All (λ n. n < length after) new → AllZip IsSame (map (subject_at before) old) (map (subject_at after) new) → AreFrom numbers old new
  members_from [] [] k h same = same
  members_from [] (n ∷ ns) k h same = absurd same
  members_from (o ∷ os) [] k h same = absurd same
  members_from (o ∷ os) (n ∷ ns) k h same =
      let low : o < length before = All-head (λ m. m < length before) o os k in
      let lt : n < length after = All-head (λ m. m < length after) n ns h in (
        had_it (subject_at after n) o (get_or numbers n None) (record { within = low; same = same.0 }) (number_of n lt),
        members_from os ns (All-tail (λ m. m < length before) o os k) (All-tail (λ m. m < length after) n ns h) same.1,
      )

-- what is below an element is below the next one
pub all_below_next : (before : List Subject) (old : ℕ) (s t : Subject) → AllBelow before old s → IsBelow s t → AllBelow before old t
all_below_next before old s t all up n lt = below_trans (subject_at before n) s t (all n lt) up

-- one more member
pub from_more : (numbers : List (Option ℕ)) (old new : List ℕ) (i : ℕ) → i < length old → i < length new → AreFrom numbers (take i old) (take i new) → get_or numbers (get_or new i 0) None ≡ Some (get_or old i 0) → AreFrom numbers (take (i + 1) old) (take (i + 1) new)
from_more numbers old new i h k from is =
    let R : ℕ → ℕ → Type 0 = λ o n. get_or numbers n None ≡ Some o in
    subst (λ l. AllZip R l (take (i + 1) new)) (sym (take_more old i 0 h)) (subst (λ l. AllZip R (take i old ++ get_or old i 0 ∷ []) l) (sym (take_more new i 0 k)) (zip_push R (take i old) (take i new) (get_or old i 0) (get_or new i 0) from is))

-- one more element
pub numbers_more : (before after : List Subject) (i : ℕ) (numbers new : List (Option ℕ)) (o : Option ℕ) → i < length after → AllZip (IsNumberBefore before) (take i after) numbers → IsNumberBefore before (subject_at after i) o → new ≡ numbers ++ o ∷ [] → AllZip (IsNumberBefore before) (take (i + 1) after) new
numbers_more before after i numbers new o h zip is made =
    subst (λ l. AllZip (IsNumberBefore before) (take (i + 1) after) l) (sym made)
    (subst (λ l. AllZip (IsNumberBefore before) l (numbers ++ o ∷ [])) (sym (take_more after i nobody h)) (zip_push (IsNumberBefore before) (take i after) numbers (subject_at after i) o zip is))

-- the members of a cell are elements of the version
pub members_inside : (boxes : List Extent) (subjects : List Subject) (cell : Cell) (l : List ℕ) → AreBoxes subjects boxes → l ≡ members boxes cell → All (λ n. n < length subjects) l
members_inside boxes subjects cell l are e i d h = omega (arith, places_within (holds cell) boxes l e i d h, zip_length IsBoxOf subjects boxes are)

-- ---- the bucket at a place before
module _ (before after : GridValue) (numbers : List (Option ℕ)) (rising : AllPairs IsBelow (subjects before)) (are : AreNumbersBefore (subjects before) (subjects after) numbers)
    (first : AreBoxes (subjects before) before.boxes) (second : AreBoxes (subjects after) after.boxes) (place : ℕ) (cell : Cell) where
  -- it is of the cell, with members that are compared by their numbers
  pub same_members : (b : Bucket) (old new : List ℕ) (r : Bool) → place < length before.buckets → b ≡ get_or before.buckets place b → IsTable before.boxes before.buckets → b.cell ≡ cell → old ≡ b.members → new ≡ members after.boxes cell → (IsTrue r ↔ AreFrom numbers old new)
      → IsTrue r ↔ IsUnmovedAt before after place cell
  same_members b old new r h e table c o n is =
      let mine : old ≡ members before.boxes cell = o ∙ subst (λ (x : Bucket). x.members ≡ members before.boxes x.cell) (sym e) (table.each place b h) ∙ ap (members before.boxes) c in (
        λ t. record {
          within = h;
          is = λ d. ap (λ (x : Bucket). x.cell) (get_or_default before.buckets place d b h ∙ sym e) ∙ c;
          members =
              subst (λ l. AllZip IsSame (subjects_at before l) (subjects_at after (members after.boxes cell))) mine
              (subst (λ l. AllZip IsSame (subjects_at before old) (subjects_at after l)) n
              (members_same (subjects before) (subjects after) numbers rising are old new (members_inside after.boxes (subjects after) cell new second n) (is.0 t)));
        },
        λ at.
            is.1
            (members_from (subjects before) (subjects after) numbers rising are old new (members_inside before.boxes (subjects before) cell old first mine) (members_inside after.boxes (subjects after) cell new second n)
            (subst (λ l. AllZip IsSame (subjects_at before l) (subjects_at after new)) (sym mine) (subst (λ l. AllZip IsSame (subjects_at before (members before.boxes cell)) (subjects_at after l)) (sym n) at.members))),
      )
