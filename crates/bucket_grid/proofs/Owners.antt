-- The cell of two boxes is the least that holds both, and boxes that lie within a metre of each other have one.
use Rattle.std.proofs.Common.{◌≡◌, ℤ, pos, negsuc, ◌+ℤ◌, ◌-ℤ◌, ◌≤ℤ◌, int_le, Bool, true, false, true≢false, ◌&&◌, sym, ap, ◌∙◌, subst, arith}
use Rattle.std.specs.Int.{int_max}
use Rattle.std.specs.Ordering.{int_cmp, ordering_then}
use Rattle.std.specs.declared.cmp.Ordering.TheVariants.{Greater}
use Rattle.std.proofs.lemmas.Int.{ints, clamps}
use Rattle.std.proofs.lemmas.Bool.{and_parts, and_from}
use Rattle.bim_model.specs.declared.geometry.Extent.{Extent}
use Rattle.bucket_grid.specs.declared.cell.Cell.{Cell}
use Rattle.bucket_grid.specs.declared.cell.TheConstants.{GROWTH}
use Rattle.bucket_grid.specs.Cells.{cell_of, first_cell, last_cell, is_in, holds, cell_cmp, owner_of, IsOwner}

pub cell_of_rises : (x y : ℤ) → x ≤ℤ y → cell_of x ≤ℤ cell_of y
cell_of_rises (pos a) (pos b) h = omega (arith, ints)
cell_of_rises (pos a) (negsuc b) h = absurd (omega (arith, ints))
cell_of_rises (negsuc a) (pos b) h = omega (arith, ints)
cell_of_rises (negsuc a) (negsuc b) h = omega (arith, ints)

-- the later of two first cells lies in a span that both begin in
later_in : (f g t : ℤ) → f ≤ℤ t → g ≤ℤ t → (int_le f (int_max f g) && int_le (int_max f g) t) ≡ true
later_in f g t a b = grind (arith, ints)

later_in_second : (f g t : ℤ) → f ≤ℤ t → g ≤ℤ t → (int_le g (int_max f g) && int_le (int_max f g) t) ≡ true
later_in_second f g t a b = grind (arith, ints)

-- two spans at most a metre apart
pub record Close (low high other_low other_high : ℤ) : Type 0 where
  pub is_span : low ≤ℤ high
  pub is_other_span : other_low ≤ℤ other_high
  pub over : low ≤ℤ (other_high +ℤ GROWTH)
  pub under : other_low ≤ℤ (high +ℤ GROWTH)

step : (low high : ℤ) → low ≤ℤ (high +ℤ GROWTH) → first_cell low ≤ℤ last_cell high
step low high h = cell_of_rises (low -ℤ GROWTH) (high +ℤ GROWTH) (omega (arith, ints))

pub own_step : (low high : ℤ) → low ≤ℤ high → first_cell low ≤ℤ last_cell high
own_step low high h = step low high (omega (arith, ints))

pub shared : (l h m n : ℤ) → Close l h m n → is_in l h (int_max (first_cell l) (first_cell m)) ≡ true
shared l h m n c = later_in (first_cell l) (first_cell m) (last_cell h) (own_step l h c.is_span) (step m h c.under)

pub shared_second : (l h m n : ℤ) → Close l h m n → is_in m n (int_max (first_cell l) (first_cell m)) ≡ true
shared_second l h m n c = later_in_second (first_cell l) (first_cell m) (last_cell n) (step l n c.over) (own_step m n c.is_other_span)

pub record CloseBoxes (a b : Extent) : Type 0 where
  pub x : Close a.low.x a.high.x b.low.x b.high.x
  pub y : Close a.low.y a.high.y b.low.y b.high.y
  pub z : Close a.low.z a.high.z b.low.z b.high.z

three : (x y z : Bool) → x ≡ true → y ≡ true → z ≡ true → (x && y && z) ≡ true
three x y z a b c = and_from (x && y) z (and_from x y a b) c

parts : (x y z : Bool) → (x && y && z) ≡ true → (x ≡ true) × (y ≡ true) × (z ≡ true)
parts x y z h = let p = and_parts (x && y) z h in let q = and_parts x y p.0 in (q.0, q.1, p.1)

-- the first cells of what a cell holds are at most it
first_at_most : (low high i : ℤ) → is_in low high i ≡ true → first_cell low ≤ℤ i
first_at_most low high i h = let p = and_parts (int_le (first_cell low) i) (int_le i (last_cell high)) h in tested (first_cell low) i p.0
  where
    tested : (a b : ℤ) → int_le a b ≡ true → a ≤ℤ b
    tested a b e = grind (arith, ints)

later_at_most : (f g i : ℤ) → f ≤ℤ i → g ≤ℤ i → int_max f g ≤ℤ i
later_at_most f g i a b = omega (arith, ints, clamps)

not_above : (a b c d e f : ℤ) → a ≤ℤ d → b ≤ℤ e → c ≤ℤ f → ordering_then (int_cmp a d) (ordering_then (int_cmp b e) (int_cmp c f)) ≡ Greater → ⊥
not_above a b c d e f h k l g = grind (arith, ints)

-- no cell that holds both comes before that of their later first cells
least_of : (a b : Extent) (k : Cell) → holds k a ≡ true → holds k b ≡ true → cell_cmp (owner_of a b) k ≡ Greater → ⊥
least_of a b k h l g =
    let p = parts _ _ _ h in
    let q = parts _ _ _ l in
    not_above _ _ _ k.x k.y k.z
    (later_at_most (first_cell a.low.x) (first_cell b.low.x) k.x (first_at_most a.low.x a.high.x k.x p.0) (first_at_most b.low.x b.high.x k.x q.0))
    (later_at_most (first_cell a.low.y) (first_cell b.low.y) k.y (first_at_most a.low.y a.high.y k.y p.1) (first_at_most b.low.y b.high.y k.y q.1))
    (later_at_most (first_cell a.low.z) (first_cell b.low.z) k.z (first_at_most a.low.z a.high.z k.z p.2) (first_at_most b.low.z b.high.z k.z q.2))
    g

pub owner_is_least : (a b : Extent) → CloseBoxes a b → IsOwner (owner_of a b) a b
owner_is_least a b c = record {
  holds_a = three _ _ _ (shared a.low.x a.high.x b.low.x b.high.x c.x) (shared a.low.y a.high.y b.low.y b.high.y c.y) (shared a.low.z a.high.z b.low.z b.high.z c.z);
  holds_b = three _ _ _ (shared_second a.low.x a.high.x b.low.x b.high.x c.x) (shared_second a.low.y a.high.y b.low.y b.high.y c.y) (shared_second a.low.z a.high.z b.low.z b.high.z c.z);
  least = least_of a b;
}

tested_cell : (a b : ℤ) → int_le a b ≡ true → a ≤ℤ b
tested_cell a b e = grind (arith, ints)

reaches : (f t i : ℤ) → (int_le f i && int_le i t) ≡ true → (f ≤ℤ i) × (i ≤ℤ t)
reaches f t i h = let p = and_parts (int_le f i) (int_le i t) h in (tested_cell f i p.0, tested_cell i t p.1)

through : (a b c : ℤ) → a ≤ℤ b → b ≤ℤ c → a ≤ℤ c
through a b c x y = omega (arith, ints)

-- two spans with a cell in common have the later of their first cells in common
both_on : (f t g u i : ℤ) → (int_le f i && int_le i t) ≡ true → (int_le g i && int_le i u) ≡ true → ((int_le f (int_max f g) && int_le (int_max f g) t) ≡ true) × ((int_le g (int_max f g) && int_le (int_max f g) u) ≡ true)
both_on f t g u i h k =
    let a = reaches f t i h in
    let b = reaches g u i k in
    (later_in f g t (through f i t a.0 a.1) (through g i t b.0 a.1), later_in_second f g u (through f i u a.0 b.1) (through g i u b.0 b.1))

-- where a cell holds both boxes, so does the cell of their later first cells, which is the least that does
pub owner_of_both : (a b : Extent) (k : Cell) → holds k a ≡ true → holds k b ≡ true → IsOwner (owner_of a b) a b
owner_of_both a b k h l =
    let p = parts _ _ _ h in
    let q = parts _ _ _ l in
    let x = both_on _ _ _ _ k.x p.0 q.0 in
    let y = both_on _ _ _ _ k.y p.1 q.1 in
    let z = both_on _ _ _ _ k.z p.2 q.2 in
    record { holds_a = three _ _ _ x.0 y.0 z.0; holds_b = three _ _ _ x.1 y.1 z.1; least = least_of a b }

abbrev cell : ℤ → ℤ → ℤ → Cell
cell x y z = record { x = x; y = y; z = z }

-- cells of the same numbers are one
pub same_cell : (c d : Cell) → c.x ≡ d.x → c.y ≡ d.y → c.z ≡ d.z → c ≡ d
same_cell c d e f g = ap (λ t. cell t c.y c.z) e ∙ ap (λ t. cell d.x t c.z) f ∙ ap (λ t. cell d.x d.y t) g

-- the cell of the later first cells, where it holds both boxes
pub owned : (a b : Extent) (c : Cell) (r : Bool) → c ≡ owner_of a b → r ≡ (holds c a && holds c b) → r ≡ true → IsOwner c a b
owned a b c r e h t =
    let p = and_parts (holds c a) (holds c b) (sym h ∙ t) in
    subst (λ (k : Cell). IsOwner k a b) (sym e) (owner_of_both a b c p.0 p.1)

-- where it doesn't, no cell does
pub unowned : (a b : Extent) (c : Cell) (r : Bool) → c ≡ owner_of a b → r ≡ (holds c a && holds c b) → r ≡ false → (k : Cell) → holds k a ≡ true → holds k b ≡ true → ⊥
unowned a b c r e h t k x y =
    let o : IsOwner c a b = subst (λ (k : Cell). IsOwner k a b) (sym e) (owner_of_both a b k x y) in
    true≢false (sym (and_from (holds c a) (holds c b) o.holds_a o.holds_b) ∙ sym h ∙ t)
