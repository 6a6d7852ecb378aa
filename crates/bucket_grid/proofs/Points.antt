-- A cell holds a box exactly where a point of the grown box lies in the cell.
use Rattle.std.proofs.Common.{◌≡◌, ◌↔◌, ℤ, pos, negsuc, ◌+ℤ◌, ◌-ℤ◌, ◌*ℤ◌, ◌≤ℤ◌, ◌<ℤ◌, int_le, Bool, true, false, ◌&&◌, refl, subst, arith}
use Rattle.std.specs.Int.{w32, saturate_signed}
use Rattle.std.proofs.lemmas.Int.{ints}
use Rattle.std.proofs.lemmas.Bool.{and_parts, and_from}
use mir.Val.{SFits}
use Rattle.bim_model.specs.declared.geometry.Point.{Point}
use Rattle.bim_model.specs.declared.geometry.Extent.{Extent}
use Rattle.bucket_grid.specs.declared.cell.Cell.{Cell}
use Rattle.bucket_grid.specs.declared.cell.TheConstants.{SIDE, GROWTH}
use Rattle.bucket_grid.specs.Cells.{cell_of, first_cell, first_low, last_cell, is_in, holds}
use Rattle.bucket_grid.specs.ElementPlaces.{IsInOrder}
use Rattle.bucket_grid.specs.GridLaws.{IsAround, IsInCell}
use Rattle.bucket_grid.proofs.Owners.{cell_of_rises}

-- a number lies in its cell
starts : (x : ℤ) → (cell_of x *ℤ SIDE) ≤ℤ x
starts (pos a) = omega (arith, ints)
starts (negsuc a) = omega (arith, ints)

saturated : (x l : ℤ) → SFits w32 l → x ≤ℤ l → saturate_signed w32 x ≤ℤ l
saturated x l L h = grind (arith, ints)

-- a low side begins at the least one of its first cell, or after it
pub first_low_at_most : (low i : ℤ) → SFits w32 low → first_cell low ≡ i → first_low i ≤ℤ low
first_low_at_most low i L e =
    let there : (i *ℤ SIDE) ≤ℤ (low -ℤ GROWTH) = subst (λ c. (c *ℤ SIDE) ≤ℤ (low -ℤ GROWTH)) e (starts (low -ℤ GROWTH)) in
    saturated ((i *ℤ SIDE) +ℤ GROWTH) low L (omega (arith, ints))

ends : (x : ℤ) → x <ℤ ((cell_of x +ℤ pos 1) *ℤ SIDE)
ends (pos a) = omega (arith, ints)
ends (negsuc a) = omega (arith, ints)

-- two cells that have a number are one
one_cell : (c i p : ℤ) → (c *ℤ SIDE) ≤ℤ p → p <ℤ ((c +ℤ pos 1) *ℤ SIDE) → (i *ℤ SIDE) ≤ℤ p → p <ℤ ((i +ℤ pos 1) *ℤ SIDE) → c ≡ i
one_cell c i p a b d e = omega (arith, ints)

-- a point of a grown span, in a cell of the axis
record OnAxis (low high i p : ℤ) : Type 0 where
  above : (low -ℤ GROWTH) ≤ℤ p
  below : p ≤ℤ (high +ℤ GROWTH)
  from : (i *ℤ SIDE) ≤ℤ p
  before : p <ℤ ((i +ℤ pos 1) *ℤ SIDE)

tested : (a b : ℤ) → int_le a b ≡ true → a ≤ℤ b
tested a b e = grind (arith, ints)

untested : (a b : ℤ) → int_le a b ≡ false → b ≤ℤ a
untested a b e = grind (arith, ints)

test : (a b : ℤ) → a ≤ℤ b → int_le a b ≡ true
test a b h = grind (arith, ints)

wide : (low high : ℤ) → low ≤ℤ high → (low -ℤ GROWTH) ≤ℤ (high +ℤ GROWTH)
wide low high h = omega (arith, ints)

-- what lies in a cell up to i lies before the next of i
before_next : (x f i : ℤ) → x <ℤ ((f +ℤ pos 1) *ℤ SIDE) → f ≤ℤ i → x <ℤ ((i +ℤ pos 1) *ℤ SIDE)
before_next x f i h k = omega (arith, ints)

-- a cell up to the one of y starts at most at y
start_at_most : (y l i : ℤ) → (l *ℤ SIDE) ≤ℤ y → i ≤ℤ l → (i *ℤ SIDE) ≤ℤ y
start_at_most y l i h k = omega (arith, ints)

own_start : (i : ℤ) → (i *ℤ SIDE) <ℤ ((i +ℤ pos 1) *ℤ SIDE)
own_start i = omega (arith, ints)

same : (a : ℤ) → a ≤ℤ a
same a = omega (arith, ints)

point_by : (low high i : ℤ) → low ≤ℤ high → first_cell low ≤ℤ i → i ≤ℤ last_cell high → (b : Bool) → int_le (i *ℤ SIDE) (low -ℤ GROWTH) ≡ b → (p : ℤ) × OnAxis low high i p
point_by low high i o f l true e = (
  low -ℤ GROWTH,
  record {
    above = same (low -ℤ GROWTH);
    below = wide low high o;
    from = tested (i *ℤ SIDE) (low -ℤ GROWTH) e;
    before = before_next (low -ℤ GROWTH) (first_cell low) i (ends (low -ℤ GROWTH)) f;
  },
)
point_by low high i o f l false e = (
  i *ℤ SIDE,
  record {
    above = untested (i *ℤ SIDE) (low -ℤ GROWTH) e;
    below = start_at_most (high +ℤ GROWTH) (last_cell high) i (starts (high +ℤ GROWTH)) l;
    from = same (i *ℤ SIDE);
    before = own_start i;
  },
)

point_of : (low high i : ℤ) → low ≤ℤ high → is_in low high i ≡ true → (p : ℤ) × OnAxis low high i p
point_of low high i o h =
    let p = and_parts (int_le (first_cell low) i) (int_le i (last_cell high)) h in
    point_by low high i o (tested (first_cell low) i p.0) (tested i (last_cell high) p.1) (int_le (i *ℤ SIDE) (low -ℤ GROWTH)) refl

cell_is : (p i : ℤ) → (i *ℤ SIDE) ≤ℤ p → p <ℤ ((i +ℤ pos 1) *ℤ SIDE) → cell_of p ≡ i
cell_is p i a b = one_cell (cell_of p) i p (starts p) (ends p) a b

in_of : (low high i p : ℤ) → OnAxis low high i p → is_in low high i ≡ true
in_of low high i p h =
    let c : cell_of p ≡ i = cell_is p i h.from h.before in
    let f : first_cell low ≤ℤ i = subst (λ z. first_cell low ≤ℤ z) c (cell_of_rises (low -ℤ GROWTH) p h.above) in
    let l : i ≤ℤ last_cell high = subst (λ z. z ≤ℤ last_cell high) c (cell_of_rises p (high +ℤ GROWTH) h.below) in
    and_from (int_le (first_cell low) i) (int_le i (last_cell high)) (test (first_cell low) i f) (test i (last_cell high) l)

held : (x y z : Bool) → x ≡ true → y ≡ true → z ≡ true → (x && y && z) ≡ true
held x y z a b c = and_from (x && y) z (and_from x y a b) c

pub cells_hold : (c : Cell) (box : Extent) → IsInOrder box → (holds c box ≡ true) ↔ ((p : Point) × IsAround box p × IsInCell c p)
cells_hold c box o = (there, back)
  where
    there : holds c box ≡ true → (p : Point) × IsAround box p × IsInCell c p
    there h =
        let p = and_parts (is_in box.low.x box.high.x c.x && is_in box.low.y box.high.y c.y) (is_in box.low.z box.high.z c.z) h in
        let q = and_parts (is_in box.low.x box.high.x c.x) (is_in box.low.y box.high.y c.y) p.0 in
        let x = point_of box.low.x box.high.x c.x o.x q.0 in
        let y = point_of box.low.y box.high.y c.y o.y q.1 in
        let z = point_of box.low.z box.high.z c.z o.z p.1 in (
          record { x = x.0; y = y.0; z = z.0 },
          record { x_low = x.1.above; y_low = y.1.above; z_low = z.1.above; x_high = x.1.below; y_high = y.1.below; z_high = z.1.below },
          record { x_from = x.1.from; y_from = y.1.from; z_from = z.1.from; x_before = x.1.before; y_before = y.1.before; z_before = z.1.before },
        )

    back : (p : Point) × IsAround box p × IsInCell c p → holds c box ≡ true
    back h =
        let a = h.1 in
        let i = h.2 in
        held _ _ _
        (in_of box.low.x box.high.x c.x h.0.x (record { above = a.x_low; below = a.x_high; from = i.x_from; before = i.x_before }))
        (in_of box.low.y box.high.y c.y h.0.y (record { above = a.y_low; below = a.y_high; from = i.y_from; before = i.y_before }))
        (in_of box.low.z box.high.z c.z h.0.z (record { above = a.z_low; below = a.z_high; from = i.z_from; before = i.z_before }))
