-- How far boxes along the axes lie apart.
use Rattle.std.specs.Prelude.{ℕ, max, nat_le, Bool, ◌&&◌, ℤ, ◌-ℤ◌}
use borrow.Author.Differences.{up}
use Rattle.bim_model.specs.declared.geometry.Extent.{Extent}

-- how far two spans of an axis lie apart: from the end of the lower to the start of the higher, and 0 where they meet
-- (up z is z, or 0 where z is below 0)
abbrev pub gap : (low high other_low other_high : ℤ) → ℕ
gap low high other_low other_high = max (up (low -ℤ other_high)) (up (other_low -ℤ high))

-- the gap of the box to the probe is at most grow on each axis
abbrev pub is_within : Extent → ℕ → Extent → Bool
is_within probe grow box =
    nat_le (gap box.low.x box.high.x probe.low.x probe.high.x) grow
    && nat_le (gap box.low.y box.high.y probe.low.y probe.high.y) grow
    && nat_le (gap box.low.z box.high.z probe.low.z probe.high.z) grow
