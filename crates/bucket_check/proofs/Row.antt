-- A member's row: the places that the filter of boxes gives are enough.
use Rattle.std.proofs.Common.{◌≡◌, ℕ, zero, suc, ◌+◌, ◌-◌, ◌*◌, ◌<◌, ◌≤◌, ◌⊎◌, inl, inr, leb, ltb, ◌&&◌, Bool, true, false, cond, List, [], ◌∷◌, ◌++◌, length, take, drop, map, filter, true≢false, Option, Some, None, refl, sym, ap, ap₂, subst, arith, ◌∙◌, append-nil, drop-cons, add-one, unsigned_abs, ℤ, pos, negsuc, ◌+ℤ◌, int_le}
use Rattle.std.specs.List.{All, flat_map}
use Rattle.std.specs.Str.{bytes_eq}
use Rattle.std.proofs.lemmas.Bool.{cases_lt, and_parts, and_from, le-leb, leb-true, lt-leb}
use Rattle.std.proofs.Math.Nat.{suc-mul, mul-suc}
use Rattle.std.proofs.lemmas.List.{length-map, get_or-map, length-drop}
use Rattle.std.proofs.lemmas.List.Elements.{filter-append, All-filter, All-same}
use Rattle.std.specs.Int.{w32, int_max}
use Rattle.std.proofs.lemmas.Int.{ints, clamps}
use lib.Signed.{lt_z}
use mir.Val.{SFits}
use Rattle.bim_model.specs.Points.{grid_limit}
use Rattle.bim_model.specs.declared.geometry.Point.{Point}
use Rattle.bim_model.specs.declared.geometry.Extent.{Extent}
use Rattle.bim_model.specs.Distances.{in_grid_numbers}
use Rattle.bim_model.specs.Rules.{greatest_distance}
use Rattle.bim_model.specs.Gaps.{gap, is_within}
use Rattle.bim_model.specs.Snapshots.{Version}
use Rattle.bim_model.specs.Keys.{Subject, subjects_of}
use Rattle.clearance.proofs.Surfaces.{elements_within}
use Rattle.box_lanes.specs.BoxPlaces.{places_from, part, later_within, is_close_from, is_within_from, box_at, nowhere}
use Rattle.box_lanes.proofs.Places.{places-cons}
use Rattle.box_lanes.proofs.Bits.{part_more, part_all, part_none}
use Rattle.bucket_grid.specs.declared.cell.Cell.{Cell}
use Rattle.bucket_grid.specs.Cells.{owner_of, first_cell, first_low, start_of}
use Rattle.bucket_grid.specs.ElementPlaces.{IsGridBox}
use Rattle.bucket_grid.proofs.Points.{first_low_at_most}
use Rattle.bucket_grid.specs.Subjects.{subject_at, nobody, IsBoxOf, AreBoxes}
use Rattle.bucket_grid.proofs.Zips.{zip_at, zip_length}
use Rattle.bucket_grid.specs.BucketTable.{upto}
use Rattle.bucket_grid.proofs.Parts.{all_upto}
use Rattle.bucket_check.specs.declared.pair.SetPair.{SetPair}
use Rattle.bucket_check.specs.Clashes.{rule_between, clash_of, is_cell, pair_if, row_by}
use Rattle.bucket_check.specs.ClashSets.{own_rule, number_at, rule_at}
use Rattle.bucket_check.proofs.Lists.{flat_same}
use Rattle.bucket_check.proofs.Merged.{one_cell}
use Rattle.bucket_check.proofs.Owned.{why, met_near}
use Rattle.bucket_check.proofs.Known.{at_most}

-- ---- the filter's places, as those below a bound that pass
one_part : (p : Extent → Bool) (xs : List Extent) (n : ℕ) → n < length xs → part p xs n (suc n) ≡ cond (p (box_at xs n)) (n ∷ []) []
one_part p xs n h =
    let one : suc n - n ≡ 1 = omega arith in
    ap (λ m. places_from n p (take m (drop n xs))) one ∙ ap (λ l. places_from n p (take 1 l)) (drop-cons xs n nowhere h) ∙ places-cons p n (box_at xs n) []

later_more : (p : Extent → Bool) (xs : List Extent) (s n : ℕ) → n < length xs → part p xs s n ≡ filter (λ k. leb s k && p (box_at xs k)) (upto n) → (n < s) ⊎ (s ≤ n)
    → part p xs s (suc n) ≡ filter (λ k. leb s k && p (box_at xs k)) (upto (suc n))
later_more p xs s n h before (inl lt) =
    let test : ℕ → Bool = λ k. leb s k && p (box_at xs k) in
    let none : leb s n ≡ false = lt-leb s n lt in
    part_none p xs s (suc n) (omega arith) ∙ sym (part_none p xs s n (omega arith)) ∙ before ∙ sym (append-nil (filter test (upto n)))
    ∙ sym (ap (λ b. filter test (upto n) ++ cond (b && p (box_at xs n)) (n ∷ []) []) none) ∙ sym (filter-append test (upto n) (n ∷ []))
later_more p xs s n h before (inr ge) =
    let test : ℕ → Bool = λ k. leb s k && p (box_at xs k) in
    let yes : leb s n ≡ true = le-leb s n ge in
    part_more p xs s n (suc n) ge (omega arith) (omega arith) ∙ ap₂ (λ a b. a ++ b) before (one_part p xs n h)
    ∙ sym (ap (λ b. filter test (upto n) ++ cond (b && p (box_at xs n)) (n ∷ []) []) yes) ∙ sym (filter-append test (upto n) (n ∷ []))

pub later_is : (p : Extent → Bool) (xs : List Extent) (s n : ℕ) → n ≤ length xs → part p xs s n ≡ filter (λ k. leb s k && p (box_at xs k)) (upto n)
later_is p xs s zero h = part_none p xs s zero (omega arith)
later_is p xs s (suc n) h = later_more p xs s n (omega arith) (later_is p xs s n (omega arith)) (cases_lt n s)

-- the places after one that the filter gives
later_listed : (start : Point) (grow : ℕ) (probe : Extent) (first : ℕ) (table : List Extent)
    → later_within start grow probe first table ≡ filter (λ k. leb (first + 1) k && is_within_from start grow probe (box_at table k)) (upto (length table))
later_listed start grow probe first table =
    sym (part_all (is_within_from start grow probe) table (first + 1) (length table) (omega arith)) ∙ later_is (is_within_from start grow probe) table (first + 1) (length table) (omega arith)

-- are places
pub later_inside : (start : Point) (grow : ℕ) (probe : Extent) (first : ℕ) (table : List Extent) → All (λ k. k < length table) (later_within start grow probe first table)
later_inside start grow probe first table =
    All-same (λ k. k < length table) _ _ (later_listed start grow probe first table)
    (All-filter (λ k. leb (first + 1) k && is_within_from start grow probe (box_at table k)) (λ k. k < length table) (upto (length table)) (all_upto (λ k. k < length table) (length table) (λ i h. h)))

-- ---- what is made of those that pass
chosen_flat : {X Y : Type 0} (b : Bool) (x : X) (xs : List X) (f : X → List Y) → flat_map f (cond b (x ∷ xs) xs) ≡ cond b (f x) [] ++ flat_map f xs
chosen_flat true x xs f = refl
chosen_flat false x xs f = refl

flat_filter : {X Y : Type 0} (f : X → List Y) (t : X → Bool) (xs : List X) → flat_map f (filter t xs) ≡ flat_map (λ x. cond (t x) (f x) []) xs
flat_filter f t [] = refl
flat_filter f t (x ∷ xs) = chosen_flat (t x) x (filter t xs) f ∙ ap (λ l. cond (t x) (f x) [] ++ l) (flat_filter f t xs)

-- one that is left out makes nothing
left_out : {Y : Type 0} (b p : Bool) (l : List Y) → (p ≡ false → l ≡ []) → cond (b && p) l [] ≡ cond b l []
left_out true true l h = refl
left_out true false l h = sym (h refl)
left_out false p l h = refl

-- ---- elements of boxes that the filter leaves out don't clash
wider_on : (low high l h : ℤ) (d g : ℕ) → d ≤ g → leb (gap low high l h) d ≡ true → leb (gap low high l h) g ≡ true
wider_on low high l h d g e t = let a = leb-true (gap low high l h) d t in le-leb (gap low high l h) g (omega (arith, a))

wider : (k m : Extent) (d g : ℕ) → d ≤ g → is_within k d m ≡ true → is_within k g m ≡ true
wider k m d g e t =
    let p = and_parts _ _ t in
    let q = and_parts _ _ p.0 in
    and_from _ _ (and_from _ _ (wider_on m.low.x m.high.x k.low.x k.high.x d g e q.0) (wider_on m.low.y m.high.y k.low.y k.high.y d g e q.1)) (wider_on m.low.z m.high.z k.low.z k.high.z d g e p.1)

either : (f g c : ℤ) → int_max f g ≡ c → (f ≡ c → ⊥) → g ≡ c
either f g c e n = grind (arith, ints, clamps)

close_by : (b : Bool) (low high l h i : ℤ) (g : ℕ) → lt_z l (first_low i) ≡ b → SFits w32 low → SFits w32 l → int_max (first_cell l) (first_cell low) ≡ i → leb (gap low high l h) g ≡ true
    → cond b (int_le low (h +ℤ pos g) && int_le (first_low i) low) (leb (gap low high l h) g) ≡ true
close_by false low high l h i g t L P o e = e
close_by true low high l h i g t L P o e =
    let a = leb-true (gap low high l h) g e in
    let other : first_cell l ≡ i → ⊥ = λ x. let y = first_low_at_most l i P x in grind (arith, ints) in
    let here = first_low_at_most low i L (either (first_cell l) (first_cell low) i o other) in
    and_from (int_le low (h +ℤ pos g)) (int_le (first_low i) low) (grind (arith, ints)) (grind (arith, ints))

-- spans close to each other, of which the cell is that of the later one, are close from the cell's start on
close_on : (low high l h i : ℤ) (g : ℕ) → SFits w32 low → SFits w32 l → int_max (first_cell l) (first_cell low) ≡ i → leb (gap low high l h) g ≡ true → is_close_from (first_low i) g low high l h ≡ true
close_on low high l h i g L P o e = close_by (lt_z l (first_low i)) low high l h i g refl L P o e

-- two boxes of the grid that are near and have this owner
close_from : (cell : Cell) (k m : Extent) (g : ℕ) → IsGridBox k → IsGridBox m → owner_of k m ≡ cell → is_within k g m ≡ true → is_within_from (start_of cell) g k m ≡ true
close_from cell k m g K M o t =
    let p = and_parts _ _ t in
    let q = and_parts _ _ p.0 in
    and_from _ _
    (and_from _ _
    (close_on m.low.x m.high.x k.low.x k.high.x cell.x g (fit m.low.x M.low.x_in) (fit k.low.x K.low.x_in) (ap (λ (c : Cell). c.x) o) q.0)
    (close_on m.low.y m.high.y k.low.y k.high.y cell.y g (fit m.low.y M.low.y_in) (fit k.low.y K.low.y_in) (ap (λ (c : Cell). c.y) o) q.1))
    (close_on m.low.z m.high.z k.low.z k.high.z cell.z g (fit m.low.z M.low.z_in) (fit k.low.z K.low.z_in) (ap (λ (c : Cell). c.z) o) p.1)
  where
    fit : (x : ℤ) → unsigned_abs x ≤ grid_limit → SFits w32 x
    fit (pos a) h = record { sfits = omega (arith, h) }
    fit (negsuc a) h = record { sfits = omega (arith, h) }

none_by : (o : Option ℕ) → ((r : ℕ) → o ≡ Some r → ⊥) → o ≡ None
none_by None h = refl
none_by (Some r) h = absurd (h r refl)

cond_none : (b : Bool) (o : Option ℕ) → (b ≡ true → o ≡ None) → cond b o None ≡ None
cond_none true o e = e refl
cond_none false o e = refl

-- the greatest distance of the rules, in grid numbers
abbrev pub reach : Version → ℕ
reach version = in_grid_numbers (greatest_distance version.rules)

farther : (d g : ℕ) → d ≤ g → in_grid_numbers d ≤ in_grid_numbers g
farther d g h = omega (arith, h)

module _ (version : Version) (boxes : List Extent) (cell : Cell) (are : AreBoxes (subjects_of version.models) boxes) (near : All IsGridBox boxes) where
  abbrev subject : ℕ → Subject
  subject n = subject_at (subjects_of version.models) n

  is_box : (n : ℕ) → n < length (subjects_of version.models) → IsBoxOf (subject n) (box_at boxes n)
  is_box n l = zip_at IsBoxOf (subjects_of version.models) boxes n nobody nowhere are l

  grid_box : (n : ℕ) → n < length (subjects_of version.models) → IsGridBox (box_at boxes n)
  grid_box n l = near n nowhere (omega (arith, l, zip_length IsBoxOf (subjects_of version.models) boxes are))

  far_apart : (a b : ℕ) → a < length (subjects_of version.models) → b < length (subjects_of version.models) → is_within_from (start_of cell) (reach version) (box_at boxes a) (box_at boxes b) ≡ false
      → owner_of (box_at boxes a) (box_at boxes b) ≡ cell → clash_of version.rules (subject a) (subject b) ≡ None
  far_apart a b h k off owned =
      none_by (clash_of version.rules (subject a) (subject b)) (λ r e.
      let s = subject a in
      let t = subject b in
      let w = why (rule_between version.rules s t) s.element t.element r e in
      let m = at_most version.rules s.element t.element (bytes_eq s.name t.name) w.found w.is in
      let near = met_near w.found.meeting w.found.distance s.element t.element w.met in
      let close = elements_within s.element t.element (box_at boxes a) (box_at boxes b) (in_grid_numbers w.found.distance) (is_box a h) (is_box b k) near in
      let far : in_grid_numbers w.found.distance ≤ (reach version) = farther w.found.distance (greatest_distance version.rules) m in
      let yes = wider (box_at boxes a) (box_at boxes b) (in_grid_numbers w.found.distance) (reach version) far close in
      true≢false (sym (close_from cell (box_at boxes a) (box_at boxes b) (reach version) (grid_box a h) (grid_box b k) owned yes) ∙ off))

  far_rule : (a b : ℕ) → a < length (subjects_of version.models) → b < length (subjects_of version.models) → is_within_from (start_of cell) (reach version) (box_at boxes a) (box_at boxes b) ≡ false → own_rule version boxes cell a b ≡ None
  far_rule a b h k off = cond_none (is_cell (owner_of (box_at boxes a) (box_at boxes b)) cell) _ (λ t. far_apart a b h k off (one_cell _ cell t))

module _ (version : Version) (boxes : List Extent) (cell : Cell) (are : AreBoxes (subjects_of version.models) boxes) (near : All IsGridBox boxes) (numbers : List ℕ) (in_it : All (λ n. n < length (subjects_of version.models)) numbers) (first : ℕ) (h : first < length numbers) where
  abbrev pair : ℕ → List SetPair
  pair j = pair_if first j (rule_at version boxes cell numbers first j)

  -- a later member that the filter leaves out has no rule with it
  same : (j : ℕ) → j < length numbers → cond (leb (first + 1) j && is_within_from (start_of cell) (reach version) (box_at boxes (number_at numbers first)) (box_at boxes (number_at numbers j))) (pair j) [] ≡ cond (ltb first j) (pair j) []
  same j l =
      left_out (leb (first + 1) j) (is_within_from (start_of cell) (reach version) (box_at boxes (number_at numbers first)) (box_at boxes (number_at numbers j))) (pair j)
      (λ off. ap (pair_if first j) (far_rule version boxes cell are near (number_at numbers first) (number_at numbers j) (in_it first 0 h) (in_it j 0 l) off))
      ∙ ap (λ n. cond (leb n j) (pair j) []) (add-one first)

  -- the row of a member has what is found with it at all later places
  pub row_is : (table : List Extent) (start : Point) (grow : ℕ) (probe : Extent) (places : List ℕ) → table ≡ map (box_at boxes) numbers → start ≡ start_of cell → probe ≡ box_at boxes (number_at numbers first) → grow ≡ (reach version)
      → places ≡ later_within start grow probe first table
      → flat_map pair places ≡ row_by (length numbers) (rule_at version boxes cell numbers) first
  row_is table start grow probe places t st pr gr e =
      let boxed : List Extent = map (box_at boxes) numbers in
      let p : Extent → Bool = is_within_from (start_of cell) (reach version) (box_at boxes (number_at numbers first)) in
      let long : length boxed ≡ length numbers = length-map numbers (box_at boxes) in
      let now : places ≡ later_within (start_of cell) (reach version) (box_at boxes (number_at numbers first)) first boxed =
      e ∙ ap (later_within start grow probe first) t ∙ ap (λ s. later_within s grow probe first boxed) st ∙ ap (λ k. later_within (start_of cell) grow k first boxed) pr
      ∙ ap (λ g. later_within (start_of cell) g (box_at boxes (number_at numbers first)) first boxed) gr in
      let listed : places ≡ filter (λ k. leb (first + 1) k && p (box_at boxed k)) (upto (length numbers)) =
      now ∙ later_listed (start_of cell) (reach version) (box_at boxes (number_at numbers first)) first boxed ∙ ap (λ n. filter (λ k. leb (first + 1) k && p (box_at boxed k)) (upto n)) long in
      ap (flat_map pair) listed ∙ flat_filter pair (λ k. leb (first + 1) k && p (box_at boxed k)) (upto (length numbers))
      ∙ flat_same (λ j. cond (leb (first + 1) j && p (box_at boxed j)) (pair j) []) (λ j. cond (ltb first j) (pair j) []) (upto (length numbers))
      (all_upto (λ j. cond (leb (first + 1) j && p (box_at boxed j)) (pair j) [] ≡ cond (ltb first j) (pair j) []) (length numbers) (λ j l.
      ap (λ b. cond (leb (first + 1) j && is_within_from (start_of cell) (reach version) (box_at boxes (number_at numbers first)) b) (pair j) []) (get_or-map (box_at boxes) numbers j 0 nowhere l) ∙ same j l))

-- ---- how many places there are
pub count_places : {A : Type 0} (p : A → Bool) (n : ℕ) (xs : List A) → length (places_from n p xs) ≤ length xs
count_places p n [] = omega arith
count_places p n (x ∷ xs) = subst (λ (l : List ℕ). length l ≤ suc (length xs)) (sym (places-cons p n x xs)) (one (p x) (count_places p (n + 1) xs))
  where
    one : (b : Bool) → length (places_from (n + 1) p xs) ≤ length xs → length (cond b (n ∷ places_from (n + 1) p xs) (places_from (n + 1) p xs)) ≤ suc (length xs)
    one true h = omega (arith, h)
    one false h = omega (arith, h)

pub few_later : (start : Point) (grow : ℕ) (probe : Extent) (first : ℕ) (table : List Extent) → length (later_within start grow probe first table) ≤ length table - (first + 1)
few_later start grow probe first table =
    let a = count_places (is_within_from start grow probe) (first + 1) (drop (first + 1) table) in
    omega (arith, a, length-drop (first + 1) table)

-- one row fewer to go
last : (c n : ℕ) → c + n + n ≡ 2 * n + c
last c n = omega arith

triangle_by : (n k : ℕ) → n ≡ k + 1 → (n + 1) * n ≡ 2 * n + n * k
triangle_by n k e =
    let two : n * n ≡ n * k + n = ap (λ m. n * m) (e ∙ add-one k) ∙ mul-suc n k in
    ap (λ m. m * n) (add-one n) ∙ suc-mul n n ∙ ap (λ m. m + n) two ∙ last (n * k) n

pub triangle : (k : ℕ) → (k + 1) * (k + 1 - 1) ≡ 2 * k + k * (k - 1)
triangle zero = refl
triangle (suc k) =
    let up : suc k + 1 - 1 ≡ suc k = omega arith in
    let down : suc k - 1 ≡ k = omega arith in
    ap (λ m. (suc k + 1) * m) up ∙ triangle_by (suc k) k (omega arith) ∙ ap (λ m. 2 * suc k + suc k * m) (sym down)
