-- The places in a list of the boxes near a box.
use Rattle.std.specs.Prelude.{ℕ, ◌+◌, ◌-◌, ℤ, ◌+ℤ◌, pos, int_le, int_lt, nat_le, Bool, cond, ◌&&◌, List, map, take, drop, slice_index_or}
use Rattle.std.specs.List.{filter, enumerate_from}
use Rattle.bim_model.specs.declared.geometry.Extent.{Extent}
use Rattle.bim_model.specs.declared.geometry.Point.{Point}
use Rattle.bim_model.specs.Gaps.{gap, is_within}

-- the places of the items that pass, rising, where the first item has the place n
abbrev pub places_from : {A : Type 0} → ℕ → (A → Bool) → List A → List ℕ
places_from n passes items = map (λ e. e.0) (filter (λ e. passes e.1) (enumerate_from n items))

-- .. of those items alone that stand at one place or after it, and before another
abbrev pub part : {A : Type 0} → (A → Bool) → List A → ℕ → ℕ → List ℕ
part passes items from end = places_from from passes (take (end - from) (drop from items))

-- the plain filter: the places, from 0 and rising, of the boxes within grow of the probe
abbrev pub places_within : Extent → ℕ → List Extent → List ℕ
places_within probe grow boxes = places_from 0 (is_within probe grow) boxes

-- the test of an axis, of the spans of a box and of the probe: the gap is at most grow where the probe begins at the
-- start or after it; else the box does, and begins at most grow after the end of the probe
abbrev pub is_close_from : ℤ → ℕ → (low high other_low other_high : ℤ) → Bool
is_close_from start grow low high other_low other_high =
    cond (int_lt other_low start) (int_le low (other_high +ℤ pos grow) && int_le start low)
    (nat_le (gap low high other_low other_high) grow)

-- .. on each axis: of boxes that aren't turned round those within grow of the probe, where on each axis the later of
-- the two begins at the start or after it
abbrev pub is_within_from : Point → ℕ → Extent → Extent → Bool
is_within_from start grow probe box =
    is_close_from start.x grow box.low.x box.high.x probe.low.x probe.high.x
    && is_close_from start.y grow box.low.y box.high.y probe.low.y probe.high.y
    && is_close_from start.z grow box.low.z box.high.z probe.low.z probe.high.z

-- their places, of the boxes after a place alone
abbrev pub later_within : Point → ℕ → Extent → ℕ → List Extent → List ℕ
later_within start grow probe first boxes =
    places_from (first + 1) (is_within_from start grow probe) (drop (first + 1) boxes)

-- what stands past the end of a list of boxes
abbrev pub nowhere : Extent
nowhere =
    record {
      low = record { x = pos 0; y = pos 0; z = pos 0 };
      high = record { x = pos 0; y = pos 0; z = pos 0 };
    }

-- the box at a place
abbrev pub box_at : List Extent → ℕ → Extent
box_at boxes n = slice_index_or boxes n nowhere
