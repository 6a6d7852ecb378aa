-- The table that is built of spans has the buckets of the boxes.
use Rattle.std.proofs.Common.{◌≡◌, ℕ, zero, suc, ◌<◌, ◌≤◌, Bool, true, false, ◌&&◌, cond, leb, int_le, ℤ, pos, negsuc, ◌+ℤ◌, ◌-ℤ◌, ◌≤ℤ◌, ◌<ℤ◌, List, [], ◌∷◌, ◌++◌, length, get_or, take, filter, refl, sym, ap, ap₂, subst, arith, ◌∙◌}
use Rattle.std.specs.List.{All, Any, AllPairs}
use Rattle.std.specs.Ordering.{int_cmp, ordering_then}
use Rattle.std.specs.declared.cmp.Ordering.TheVariants.{Less}
use Rattle.std.proofs.Math.Seq.{take-length}
use Rattle.std.proofs.Common.{add-one}
use Rattle.std.proofs.lemmas.Int.{ints}
use Rattle.std.proofs.lemmas.Bool.{and_parts, le-leb, leb-true}
use Rattle.std.proofs.lemmas.List.Elements.{All-nil, All-cons, All-filter, All-weaker, filter-append, filter_passes}
use Rattle.bim_model.specs.declared.geometry.Extent.{Extent}
use Rattle.box_lanes.specs.BoxPlaces.{places_from, box_at, nowhere}
use Rattle.box_lanes.proofs.Places.{places_more}
use Rattle.bucket_grid.specs.declared.cell.Cell.{Cell}
use Rattle.bucket_grid.specs.declared.lists.Span.{Span}
use Rattle.bucket_grid.specs.declared.bucket_table.Bucket.{Bucket}
use Rattle.bucket_grid.specs.Cells.{first_cell, last_cell, holds, members, cell_cmp, IsBucket}
use Rattle.bucket_grid.specs.Dealt.{covers, span_at}
use Rattle.bucket_grid.specs.BucketTable.{upto, among, if_bucket, with_x, with_y, with_z, column, slab, table, AreSpans, IsTable}
use Rattle.bucket_grid.proofs.Parts.{flat_all, flat_any, flat_pairs, all_upto, filter_on, filter-filter}

-- the places that pass, among the numbers
pub places_upto : (p : Extent → Bool) (boxes : List Extent) (n : ℕ) → n ≤ length boxes → places_from 0 p (take n boxes) ≡ filter (λ i. p (box_at boxes i)) (upto n)
places_upto p boxes zero h = refl
places_upto p boxes (suc n) h =
    ap (λ m. places_from 0 p (take m boxes)) (sym (add-one n)) ∙ places_more p boxes n nowhere (omega arith)
    ∙ ap (λ l. l ++ cond (p (box_at boxes n)) (n ∷ []) []) (places_upto p boxes n (omega arith))
    ∙ sym (filter-append (λ i. p (box_at boxes i)) (upto n) (n ∷ []))

pub members_upto : (boxes : List Extent) (c : Cell) → members boxes c ≡ filter (λ i. holds c (box_at boxes i)) (upto (length boxes))
members_upto boxes c = ap (places_from 0 (holds c)) (sym (take-length boxes)) ∙ places_upto (holds c) boxes (length boxes) (omega arith)

pub less_x : (a b c d e f : ℤ) → a <ℤ b → ordering_then (int_cmp a b) (ordering_then (int_cmp c d) (int_cmp e f)) ≡ Less
less_x a b c d e f h = grind (arith, ints)

pub less_y : (a b c d e f : ℤ) → a ≡ b → c <ℤ d → ordering_then (int_cmp a b) (ordering_then (int_cmp c d) (int_cmp e f)) ≡ Less
less_y a b c d e f h k = grind (arith, ints)

pub less_z : (a b c d e f : ℤ) → a ≡ b → c ≡ d → e <ℤ f → ordering_then (int_cmp a b) (ordering_then (int_cmp c d) (int_cmp e f)) ≡ Less
less_z a b c d e f h k l = grind (arith, ints)

pub further : (low a b : ℤ) (j k : ℕ) → j < k → a ≡ low +ℤ pos j → b ≡ low +ℤ pos k → a <ℤ b
further low a b j k h e f = omega (arith, ints)

pub along : (low a b : ℤ) → a ≡ low → b ≡ low → a ≡ b
along low a b e f = e ∙ sym f

abbrev R : Bucket → Bucket → Type 0
R b c = cell_cmp b.cell c.cell ≡ Less

-- what holds of a cell's bucket, if it is one
one_all : (P : Bucket → Type 0) (c : Cell) (ns : List ℕ) → P (record { cell = c; members = ns }) → All P (if_bucket c ns)
one_all P c ns h = chosen (leb 2 (length ns))
  where
    chosen : (b : Bool) → All P (cond b (record { cell = c; members = ns } ∷ []) [])
    chosen true = All-cons P _ [] h (All-nil P)
    chosen false = All-nil P

one_pairs : (c : Cell) (ns : List ℕ) → AllPairs R (if_bucket c ns)
one_pairs c ns = chosen (leb 2 (length ns))
  where
    chosen : (b : Bool) → AllPairs R (cond b (record { cell = c; members = ns } ∷ []) [])
    chosen true = λ i j d below within. absurd (omega (arith, below, within))
    chosen false = λ i j d below within. absurd (omega (arith, within))

abbrev InColumn : Cell → Bucket → Type 0
InColumn low b = (b.cell.x ≡ low.x) × (b.cell.y ≡ low.y)

abbrev InSlab : Cell → Bucket → Type 0
InSlab low b = b.cell.x ≡ low.x

in_column : (zs : List Span) (low : Cell) (depth : ℕ) (ns : List ℕ) → All (InColumn low) (column zs low depth ns)
in_column zs low depth ns = flat_all (InColumn low) (λ k. if_bucket (with_z low k) (among zs k ns)) depth (λ k lt. one_all (InColumn low) (with_z low k) (among zs k ns) (refl, refl))

in_slab : (ys zs : List Span) (low : Cell) (width depth : ℕ) (ns : List ℕ) → All (InSlab low) (slab ys zs low width depth ns)
in_slab ys zs low width depth ns =
    flat_all (InSlab low) (λ k. column zs (with_y low k) depth (among ys k ns)) width
    (λ k lt. All-weaker (InColumn (with_y low k)) (InSlab low) (λ b h. h.0) (column zs (with_y low k) depth (among ys k ns)) (in_column zs (with_y low k) depth (among ys k ns)))

column_rises : (zs : List Span) (low : Cell) (depth : ℕ) (ns : List ℕ) → AllPairs R (column zs low depth ns)
column_rises zs low depth ns =
    flat_pairs R (λ k b. b.cell ≡ with_z low k) (λ k. if_bucket (with_z low k) (among zs k ns)) depth
    (λ j k b c lt e f.
    less_z b.cell.x c.cell.x b.cell.y c.cell.y b.cell.z c.cell.z (along low.x _ _ (ap (λ (t : Cell). t.x) e) (ap (λ (t : Cell). t.x) f)) (along low.y _ _ (ap (λ (t : Cell). t.y) e) (ap (λ (t : Cell). t.y) f))
    (further low.z b.cell.z c.cell.z j k lt (ap (λ (t : Cell). t.z) e) (ap (λ (t : Cell). t.z) f)))
    (λ k. one_all (λ b. b.cell ≡ with_z low k) (with_z low k) (among zs k ns) refl)
    (λ k lt. one_pairs (with_z low k) (among zs k ns))

slab_rises : (ys zs : List Span) (low : Cell) (width depth : ℕ) (ns : List ℕ) → AllPairs R (slab ys zs low width depth ns)
slab_rises ys zs low width depth ns =
    flat_pairs R (λ k b. InColumn (with_y low k) b) (λ k. column zs (with_y low k) depth (among ys k ns)) width
    (λ j k b c lt e f. less_y b.cell.x c.cell.x b.cell.y c.cell.y b.cell.z c.cell.z (along low.x _ _ e.0 f.0) (further low.y b.cell.y c.cell.y j k lt e.1 f.1))
    (λ k. in_column zs (with_y low k) depth (among ys k ns))
    (λ k lt. column_rises zs (with_y low k) depth (among ys k ns))

table_rises : (xs ys zs : List Span) (low : Cell) (long width depth : ℕ) (ns : List ℕ) → AllPairs R (table xs ys zs low long width depth ns)
table_rises xs ys zs low long width depth ns =
    flat_pairs R (λ k b. InSlab (with_x low k) b) (λ k. slab ys zs (with_x low k) width depth (among xs k ns)) long
    (λ j k b c lt e f. less_x b.cell.x c.cell.x b.cell.y c.cell.y b.cell.z c.cell.z (further low.x b.cell.x c.cell.x j k lt e f))
    (λ k. in_slab ys zs (with_x low k) width depth (among xs k ns))
    (λ k lt. slab_rises ys zs (with_x low k) width depth (among xs k ns))

-- a span covers what its first and last cell have between them
low_side : (low first i : ℤ) (k f : ℕ) → low +ℤ pos f ≡ first → i ≡ low +ℤ pos k → leb f k ≡ int_le first i
low_side low first i k f e g = grind (arith, ints)

high_side : (low last i : ℤ) (k l : ℕ) → low +ℤ pos l ≡ last → i ≡ low +ℤ pos k → leb k l ≡ int_le i last
high_side low last i k l e g = grind (arith, ints)

covered : (low first last i : ℤ) (k : ℕ) (s : Span) → low +ℤ pos s.first ≡ first → low +ℤ pos s.last ≡ last → i ≡ low +ℤ pos k → covers k s ≡ (int_le first i && int_le i last)
covered low first last i k s e f g = ap₂ (λ a b. a && b) (low_side low first i k s.first e g) (high_side low last i k s.last f g)

-- the cell that lies so far on
abbrev at : Cell → ℕ → ℕ → ℕ → Cell
at low i j k = with_z (with_y (with_x low i) j) k

both : (p q r s t u : Bool) → p ≡ s → q ≡ t → r ≡ u → (p && q && r) ≡ (s && t && u)
both p q r s t u e f g = ap₂ (λ a b. a && b) (ap₂ (λ a b. a && b) e f) g

same_tests : (p q r s t u : Bool) → p ≡ s → q ≡ t → r ≡ u → ((p && q) && r) ≡ (s && t && u)
same_tests p q r s t u e f g = both p q r s t u e f g

one_only : (boxes : List Extent) (c : Cell) (ns : List ℕ) → ns ≡ members boxes c → All (λ (b : Bucket). IsBucket boxes b.cell) (if_bucket c ns)
one_only boxes c ns e = chosen (leb 2 (length ns)) refl
  where
    chosen : (b : Bool) → leb 2 (length ns) ≡ b → All (λ (t : Bucket). IsBucket boxes t.cell) (cond b (record { cell = c; members = ns } ∷ []) [])
    chosen true h = All-cons (λ (t : Bucket). IsBucket boxes t.cell) _ [] (subst (λ (l : List ℕ). 2 ≤ length l) e (leb-true 2 (length ns) h)) (All-nil (λ (t : Bucket). IsBucket boxes t.cell))
    chosen false h = All-nil (λ (t : Bucket). IsBucket boxes t.cell)

one_any : (c d : Cell) (ns : List ℕ) → d ≡ c → 2 ≤ length ns → Any (λ (b : Bucket). b.cell ≡ c) (if_bucket d ns)
one_any c d ns e h = subst (λ t. Any (λ (b : Bucket). b.cell ≡ c) (cond t (record { cell = d; members = ns } ∷ []) [])) (sym (le-leb 2 (length ns) h)) (0, record { cell = d; members = ns }, omega arith, refl, e)

abbrev cell : ℤ → ℤ → ℤ → Cell
cell x y z = record { x = x; y = y; z = z }

one_cell : (a b c d e f : ℤ) → a ≡ d → b ≡ e → c ≡ f → cell a b c ≡ cell d e f
one_cell a b c d e f h k l = ap (λ t. cell t b c) h ∙ ap (λ t. cell d t c) k ∙ ap (λ t. cell d e t) l

parts : (x y z : Bool) → (x && y && z) ≡ true → (x ≡ true) × (y ≡ true) × (z ≡ true)
parts x y z h = let p = and_parts (x && y) z h in let q = and_parts x y p.0 in (q.0, q.1, p.1)

-- what is at least low is a number above it
pub above : (low i d : ℤ) → (i -ℤ low) ≡ d → low ≤ℤ i → (k : ℕ) × (i ≡ low +ℤ pos k)
above low i (pos k) e h = (k, omega (arith, ints))
above low i (negsuc k) e h = absurd (omega (arith, ints))

below : (low i last : ℤ) (k l count : ℕ) → i ≡ low +ℤ pos k → low +ℤ pos l ≡ last → i ≤ℤ last → l < count → k < count
below low i last k l count e g h lt = omega (arith, ints)

pub tested : (a b : ℤ) → int_le a b ≡ true → a ≤ℤ b
tested a b e = grind (arith, ints)

-- a cell that is covered lies so far on
place : (low first last i : ℤ) (f l count : ℕ) → low +ℤ pos f ≡ first → low +ℤ pos l ≡ last → (int_le first i && int_le i last) ≡ true → l < count → (k : ℕ) × (k < count) × (i ≡ low +ℤ pos k)
place low first last i f l count e g h lt =
    let p = and_parts (int_le first i) (int_le i last) h in
    let a = tested first i p.0 in
    let k = above low i (i -ℤ low) refl (omega (arith, ints)) in
    (k.0, below low i last k.0 l count k.1 g (tested i last p.1) lt, k.1)

-- a cell with members has one
first_member : (boxes : List Extent) (c : Cell) → 2 ≤ length (members boxes c) → (n : ℕ) × (n < length boxes) × (holds c (box_at boxes n) ≡ true)
first_member boxes c h =
    let p : ℕ → Bool = λ i. holds c (box_at boxes i) in
    let l = filter p (upto (length boxes)) in
    let some : 0 < length l = omega (arith, ap length (members_upto boxes c)) in
    (get_or l 0 0, All-filter p (λ i. i < length boxes) (upto (length boxes)) (all_upto (λ i. i < length boxes) (length boxes) (λ i lt. lt)) 0 0 some, filter_passes p (upto (length boxes)) 0 0 some)

module _ (boxes : List Extent) (xs ys zs : List Span) (low : Cell) (long width depth : ℕ)
    (x : AreSpans low.x (λ n. first_cell (box_at boxes n).low.x) (λ n. last_cell (box_at boxes n).high.x) (length boxes) xs)
    (y : AreSpans low.y (λ n. first_cell (box_at boxes n).low.y) (λ n. last_cell (box_at boxes n).high.y) (length boxes) ys)
    (z : AreSpans low.z (λ n. first_cell (box_at boxes n).low.z) (λ n. last_cell (box_at boxes n).high.z) (length boxes) zs)
    (in_x : (n : ℕ) → n < length boxes → (span_at xs n).last < long)
    (in_y : (n : ℕ) → n < length boxes → (span_at ys n).last < width)
    (in_z : (n : ℕ) → n < length boxes → (span_at zs n).last < depth) where
  abbrev numbers : List ℕ
  numbers = upto (length boxes)

  -- what is dealt three times is the members of the cell
  dealt_members : (i j k : ℕ) → among zs k (among ys j (among xs i numbers)) ≡ members boxes (at low i j k)
  dealt_members i j k =
      ap (filter (λ n. covers k (span_at zs n))) (filter-filter (λ n. covers j (span_at ys n)) (λ n. covers i (span_at xs n)) numbers)
      ∙ filter-filter (λ n. covers k (span_at zs n)) (λ n. covers i (span_at xs n) && covers j (span_at ys n)) numbers
      ∙ filter_on (λ n. covers i (span_at xs n) && covers j (span_at ys n) && covers k (span_at zs n)) (λ n. holds (at low i j k) (box_at boxes n)) numbers
      (all_upto _ (length boxes) (λ n lt.
      same_tests _ _ _ _ _ _
      (covered low.x _ _ (low.x +ℤ pos i) i (span_at xs n) (x.first_is n lt) (x.last_is n lt) refl)
      (covered low.y _ _ (low.y +ℤ pos j) j (span_at ys n) (y.first_is n lt) (y.last_is n lt) refl)
      (covered low.z _ _ (low.z +ℤ pos k) k (span_at zs n) (z.first_is n lt) (z.last_is n lt) refl)))
      ∙ sym (members_upto boxes (at low i j k))

  slab_at : (P : Bucket → Type 0) → ((c : Cell) (ns : List ℕ) → ns ≡ members boxes c → All P (if_bucket c ns)) → All P (table xs ys zs low long width depth numbers)
  slab_at P h =
      flat_all P (λ i. slab ys zs (with_x low i) width depth (among xs i numbers)) long (λ i a.
      flat_all P (λ j. column zs (with_y (with_x low i) j) depth (among ys j (among xs i numbers))) width (λ j b.
      flat_all P (λ k. if_bucket (at low i j k) (among zs k (among ys j (among xs i numbers)))) depth (λ k d. h (at low i j k) _ (dealt_members i j k))))

  pub table_is : IsTable boxes (table xs ys zs low long width depth numbers)
  table_is = record {
    rising = table_rises xs ys zs low long width depth numbers;
    each = slab_at (λ b. b.members ≡ members boxes b.cell) (λ c ns e. one_all (λ b. b.members ≡ members boxes b.cell) c ns e);
    only = slab_at (λ b. IsBucket boxes b.cell) (λ c ns e. one_only boxes c ns e);
    all = λ c h.
        let n = first_member boxes c h in
        let p = parts _ _ _ n.2 in
        let i = place low.x _ _ c.x _ _ long (x.first_is n.0 n.1) (x.last_is n.0 n.1) p.0 (in_x n.0 n.1) in
        let j = place low.y _ _ c.y _ _ width (y.first_is n.0 n.1) (y.last_is n.0 n.1) p.1 (in_y n.0 n.1) in
        let k = place low.z _ _ c.z _ _ depth (z.first_is n.0 n.1) (z.last_is n.0 n.1) p.2 (in_z n.0 n.1) in
        let e : at low i.0 j.0 k.0 ≡ c = one_cell _ _ _ _ _ _ (sym i.2) (sym j.2) (sym k.2) in
        let enough : 2 ≤ length (among zs k.0 (among ys j.0 (among xs i.0 numbers))) = subst (λ (l : List ℕ). 2 ≤ length l) (ap (members boxes) (sym e) ∙ sym (dealt_members i.0 j.0 k.0)) h in
        flat_any (λ b. b.cell ≡ c) (λ i. slab ys zs (with_x low i) width depth (among xs i numbers)) long i.0 i.1
        (flat_any (λ b. b.cell ≡ c) (λ m. column zs (with_y (with_x low i.0) m) depth (among ys m (among xs i.0 numbers))) width j.0 j.1
        (flat_any (λ b. b.cell ≡ c) (λ m. if_bucket (at low i.0 j.0 m) (among zs m (among ys j.0 (among xs i.0 numbers)))) depth k.0 k.1
        (one_any c (at low i.0 j.0 k.0) _ e enough)));
  }
