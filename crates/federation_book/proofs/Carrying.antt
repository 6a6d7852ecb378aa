-- What a progress leaves to be checked is what a version leaves.
use Rattle.std.proofs.Common.{◌≡◌, ◌↔◌, ◌<◌, ◌⊎◌, inl, inr, ℕ, zero, suc, Bool, true, false, not, ◌||◌, cond, is_none, IsSome, IsTrue, List, [], ◌∷◌, length, get_or, map, filter, Option, Some, None, refl, sym, ap, subst, ◌∙◌, arith, true≢false}
use Rattle.std.specs.List.{All, AllPairs, Contains}
use Rattle.std.proofs.lemmas.Bool.{and_parts, and_from}
use Rattle.std.proofs.lemmas.List.{get_or_default, get_or-map, length-map}
use Rattle.std.proofs.lemmas.List.Elements.{All-head, All-tail}
use Rattle.bim_model.specs.Snapshots.{Version}
use Rattle.bucket_grid.specs.declared.cell.Cell.{Cell}
use Rattle.bucket_grid.specs.Cells.{IsBucket}
use Rattle.bucket_grid.specs.Grids.{GridValue}
use Rattle.bucket_check.specs.Clashes.{is_cell}
use Rattle.bucket_check.specs.ClashSets.{SetValue}
use Rattle.bucket_check.proofs.Merged.{one_cell}
use Rattle.clash_delta.specs.declared.slot.Slot.{Slot}
use Rattle.clash_delta.specs.BucketProgress.{cells_of, bucket_cells, undone_cells, IsBucketOf, IsDone, IsOf}
use Rattle.clash_delta.specs.Carried.{IsCarried}
use Rattle.book_history.specs.Buckets.{buckets_of, buckets_among, is_among}
use Rattle.book_history.specs.Unmoved.{is_unmoved}
use Rattle.book_history.specs.Versions.{VersionState, is_done, is_carried, made_after}
use Rattle.book_history.proofs.OneGrid.{HasParts}
use Rattle.book_history.proofs.Among.{grid_boxes, bucket_among}
use Rattle.book_history.proofs.Listing.{Below, table_cells, buckets_listed}
use Rattle.book_history.proofs.Same.{unmoved_tells}
use Rattle.federation_book.proofs.Slots.{IsOpen, open_among, among_open, done_open, done_or_open}

-- ---- cells of a list
contains_later : (x : Cell) (xs : List Cell) (c : Cell) → Contains xs c → Contains (x ∷ xs) c
contains_later x xs c h = (suc h.0, omega (arith, h.1), h.2)

contains_by : (x : Cell) (xs : List Cell) (c : Cell) (b : Bool) → is_cell x c ≡ b → (b || is_among xs c) ≡ true → (is_among xs c ≡ true → Contains xs c) → Contains (x ∷ xs) c
contains_by x xs c true i h rest = (0, omega arith, one_cell x c i)
contains_by x xs c false i h rest = contains_later x xs c (rest h)

pub among_contains : (cells : List Cell) (c : Cell) → is_among cells c ≡ true → Contains cells c
among_contains [] c e = absurd (true≢false (sym e))
among_contains (x ∷ xs) c e = contains_by x xs c (is_cell x c) refl e (λ h. among_contains xs c h)

-- ---- a grid and its version
pub grid_cells : (g : GridValue) → HasParts g → bucket_cells g ≡ buckets_of g.version
grid_cells g h = table_cells g.boxes g.buckets h.near h.table ∙ ap buckets_among (grid_boxes g h)

pub among_bucket : (g : GridValue) → HasParts g → (c : Cell) → is_among (buckets_of g.version) c ≡ true → IsBucket g.boxes c
among_bucket g h c e = (buckets_listed g.boxes h.near).each c (subst (λ xs. Contains (buckets_among xs) c) (sym (grid_boxes g h)) (among_contains (buckets_of g.version) c e))

-- a bucket of the grid is one of the progress
cell_later : (s : Slot) (ss : List Slot) (c : Cell) → IsBucketOf ss c → IsBucketOf (s ∷ ss) c
cell_later s ss c a = (suc a.0, a.1, omega (arith, a.2), a.3, a.4)

cell_by : (s : Slot) (ss : List Slot) (c : Cell) (k : ℕ) → k < length (cells_of (s ∷ ss)) → get_or (cells_of (s ∷ ss)) k c ≡ c → (Contains (cells_of ss) c → IsBucketOf ss c) → IsBucketOf (s ∷ ss) c
cell_by s ss c zero lt e rest = (0, s, omega arith, refl, e)
cell_by s ss c (suc k) lt e rest = cell_later s ss c (rest (k, omega (arith, lt), e))

any_cell : (slots : List Slot) (c : Cell) → Contains (cells_of slots) c → IsBucketOf slots c
any_cell [] c h = absurd (omega (arith, h.1))
any_cell (s ∷ ss) c h = cell_by s ss c h.0 h.1 h.2 (λ r. any_cell ss c r)

module _ (g : GridValue) (h : HasParts g) (slots : List Slot) (is : IsOf g slots) where
  pub rises : AllPairs Below (cells_of slots)
  rises = subst (λ l. AllPairs Below l) (sym (is.buckets ∙ table_cells g.boxes g.buckets h.near h.table)) (buckets_listed g.boxes h.near).rising

  pub bucket_of : (c : Cell) → IsBucket g.boxes c → IsBucketOf slots c
  bucket_of c b = any_cell slots c (subst (λ l. Contains l c) (sym (is.buckets ∙ table_cells g.boxes g.buckets h.near h.table)) ((buckets_listed g.boxes h.near).all c b))

  pub bucket_from : (c : Cell) → IsBucketOf slots c → IsBucket g.boxes c
  bucket_from c b =
      let n = length-map slots (λ (s : Slot). s.cell) in
      let in_cells : Contains (cells_of slots) c = (b.0, omega (arith, b.2, n), get_or-map (λ (s : Slot). s.cell) slots b.0 b.1 c b.2 ∙ ap (λ (s : Slot). s.cell) b.3 ∙ b.4) in
      (buckets_listed g.boxes h.near).each c (subst (λ l. Contains l c) (is.buckets ∙ table_cells g.boxes g.buckets h.near h.table) in_cells)

  -- the buckets of the version are those of the progress
  pub among_of : (c : Cell) → IsBucketOf slots c → is_among (buckets_of g.version) c ≡ true
  among_of c b = bucket_among g h c (bucket_from c b)

  pub among_none : (c : Cell) → (IsBucketOf slots c → ⊥) → is_among (buckets_of g.version) c ≡ false
  among_none c not = by (is_among (buckets_of g.version) c) refl
    where
      by : (b : Bool) → is_among (buckets_of g.version) c ≡ b → b ≡ false
      by true e = absurd (not (bucket_of c (among_bucket g h c e)))
      by false e = refl

  -- a bucket that is done, by the progress and by what is left
  pub done_then : (c : Cell) → is_done (record { content = g.version; undone = undone_cells slots }) c ≡ true → IsBucket g.boxes c × IsDone slots c
  done_then c e =
      let p = and_parts (is_among (buckets_of g.version) c) (not (is_among (undone_cells slots) c)) e in
      let b = among_bucket g h c p.0 in
      (b, by (is_among (undone_cells slots) c) refl p.1 (done_or_open slots rises c (bucket_of c b)))
    where
      by : (b : Bool) → is_among (undone_cells slots) c ≡ b → not b ≡ true → IsDone slots c ⊎ IsOpen slots c → IsDone slots c
      by b i n (inl d) = d
      by true i n (inr o) = absurd (true≢false (sym n))
      by false i n (inr o) = absurd (true≢false (sym (among_open slots c o) ∙ i))

  pub then_done : (c : Cell) → IsBucket g.boxes c → IsDone slots c → is_done (record { content = g.version; undone = undone_cells slots }) c ≡ true
  then_done c b d = and_from (is_among (buckets_of g.version) c) (not (is_among (undone_cells slots) c)) (bucket_among g h c b) (by (is_among (undone_cells slots) c) refl)
    where
      by : (t : Bool) → is_among (undone_cells slots) c ≡ t → not t ≡ true
      by true i = absurd (done_open slots rises c d (open_among slots c i))
      by false i = refl

-- ---- what is carried
-- the cells of the items of a test
map_filter : (p : Slot → Bool) (q : Cell → Bool) (slots : List Slot) → All (λ (s : Slot). p s ≡ q s.cell) slots → map (λ (s : Slot). s.cell) (filter p slots) ≡ filter q (cells_of slots)
map_filter p q [] h = refl
map_filter p q (s ∷ ss) h = by (p s) (q s.cell) (All-head (λ (t : Slot). p t ≡ q t.cell) s ss h) (map_filter p q ss (All-tail (λ (t : Slot). p t ≡ q t.cell) s ss h))
  where
    by : (a b : Bool) → a ≡ b → map (λ (t : Slot). t.cell) (filter p ss) ≡ filter q (cells_of ss) → map (λ (t : Slot). t.cell) (cond a (s ∷ filter p ss) (filter p ss)) ≡ cond b (s.cell ∷ filter q (cells_of ss)) (filter q (cells_of ss))
    by true true e r = ap (λ l. s.cell ∷ l) r
    by false false e r = r
    by true false e r = absurd (true≢false e)
    by false true e r = absurd (true≢false (sym e))

module _ (before after : GridValue) (h : HasParts before) (k : HasParts after) (done made : List Slot) (of : IsOf before done) (is : IsOf after made) (carried : (c : Cell) → IsDone made c ↔ IsCarried done before after c) where
  abbrev was : VersionState
  was = record { content = before.version; undone = undone_cells done }

  tested : (c : Cell) → is_carried was after.version c ≡ true → IsDone made c
  tested c e =
      let p = and_parts (is_done was c) (is_unmoved before.version after.version c) e in
      let d = done_then before h done of c p.0 in
      (carried c).1 (record { was_bucket = d.0; was_done = d.1; unmoved = (unmoved_tells before after c (grid_boxes before h) (grid_boxes after k)).0 p.1 })

  passes : (c : Cell) → IsDone made c → is_carried was after.version c ≡ true
  passes c d =
      let i = (carried c).0 d in
      and_from (is_done was c) (is_unmoved before.version after.version c) (then_done before h done of c i.was_bucket i.was_done) ((unmoved_tells before after c (grid_boxes before h) (grid_boxes after k)).1 i.unmoved)

  own_slot : (i : ℕ) (d : Slot) → i < length made → (o : Option SetValue) → (get_or made i d).set ≡ o → (b : Bool) → is_carried was after.version (get_or made i d).cell ≡ b → is_none o ≡ not b
  own_slot i d lt None e true c = absurd (done_open made (rises after k made is) (get_or made i d).cell (tested (get_or made i d).cell c) (i, get_or made i d, lt, get_or_default made i (get_or made i d) d lt, (refl, ap is_none e)))
  own_slot i d lt None e false c = refl
  own_slot i d lt (Some x) e true c = refl
  own_slot i d lt (Some x) e false c =
      absurd (true≢false (sym (passes (get_or made i d).cell (i, get_or made i d, lt, get_or_default made i (get_or made i d) d lt, (refl, subst IsSome (sym e) refl))) ∙ c))

  -- what is left of the progress that was made is what is left of the version
  pub carried_left : undone_cells made ≡ (made_after was after.version).undone
  carried_left =
      map_filter (λ (s : Slot). is_none s.set) (λ c. not (is_carried was after.version c)) made (λ i d lt. own_slot i d lt (get_or made i d).set refl (is_carried was after.version (get_or made i d).cell) refl)
      ∙ ap (filter (λ c. not (is_carried was after.version c))) (is.buckets ∙ grid_cells after k)

-- ---- what a version tells of its grid and progress
abbrev pub kept_as : Version → List Cell → VersionState
kept_as content undone = record { content = content; undone = undone }

same_bool : (a b : Bool) → (a ≡ true → b ≡ true) → (b ≡ true → a ≡ true) → a ≡ b
same_bool true b f g = sym (f refl)
same_bool false true f g = g refl
same_bool false false f g = refl

-- the test of a bucket, of a version that holds what its grid does
pub done_is : (g : GridValue) → HasParts g → (slots : List Slot) → IsOf g slots → (content : Version) → g.version ≡ content → (c : Cell) (r : Bool) → (IsTrue r ↔ IsDone slots c)
    → r ≡ is_done (kept_as content (undone_cells slots)) c
done_is g h slots is content same c r tells =
    subst (λ v. r ≡ is_done (kept_as v (undone_cells slots)) c) same
    (same_bool r (is_done (kept_as g.version (undone_cells slots)) c)
    (λ e. let d = tells.0 e in then_done g h slots is c (bucket_from g h slots is c (d.0, d.1, d.2, d.3, d.4.0)) d)
    (λ e. tells.1 (done_then g h slots is c e).1))

-- the version that is made
pub made_is : (before after : GridValue) → HasParts before → HasParts after → (done made : List Slot) → IsOf before done → IsOf after made
    → ((c : Cell) → IsDone made c ↔ IsCarried done before after c) → (old new : Version) → before.version ≡ old → after.version ≡ new
    → kept_as new (undone_cells made) ≡ made_after (kept_as old (undone_cells done)) new
made_is before after h k done made of is carried old new e f =
    subst (λ v. kept_as v (undone_cells made) ≡ made_after (kept_as old (undone_cells done)) v) f
    (subst (λ u. kept_as after.version (undone_cells made) ≡ made_after (kept_as u (undone_cells done)) after.version) e
    (ap (kept_as after.version) (carried_left before after h k done made of is carried)))
