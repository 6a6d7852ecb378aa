-- Boxes that meet a box, by one comparison for each side, and roughly in 16 bits.
use Rattle.std.specs.Prelude.{ℤ, pos, List, [], ◌∷◌, Bool, cond, ◌&&◌, ◌≡◌, int_le, FitsSigned}
use Rattle.std.specs.Int.{w16, w32, int_shr, saturate_signed}
use Rattle.bim_model.specs.declared.geometry.Extent.{Extent}
use Rattle.box_lanes.specs.declared.reach.Reach.{Reach}
use Rattle.box_lanes.specs.declared.reach.Rough.{Rough}

-- on each axis the box begins at the reach's end or before it, and ends, or begins, at its start or after it
abbrev pub meets : Reach → Extent → Bool
meets reach box =
    ((int_le box.low.x reach.high.x && int_le reach.low.x (cond reach.later_x box.low.x box.high.x))
    && (int_le box.low.y reach.high.y && int_le reach.low.y (cond reach.later_y box.low.y box.high.y)))
    && (int_le box.low.z reach.high.z && int_le reach.low.z (cond reach.later_z box.low.z box.high.z))

-- each coordinate fits 32 bits
pub record Fits32 (box : Extent) : Type 0 where
  pub low_x : FitsSigned w32 box.low.x
  pub low_y : FitsSigned w32 box.low.y
  pub low_z : FitsSigned w32 box.low.z
  pub high_x : FitsSigned w32 box.high.x
  pub high_y : FitsSigned w32 box.high.y
  pub high_z : FitsSigned w32 box.high.z

-- a coordinate in steps of 256, rounded down, as far as 16 bits go
abbrev pub coarse : ℤ → ℤ
coarse x = saturate_signed w16 (int_shr x 8)

-- a box in such steps
abbrev pub coarse_box : Extent → Extent
coarse_box box =
    record {
      low = record { x = coarse box.low.x; y = coarse box.low.y; z = coarse box.low.z };
      high = record { x = coarse box.high.x; y = coarse box.high.y; z = coarse box.high.z };
    }

-- a reach in such steps
abbrev pub coarse_reach : Reach → Reach
coarse_reach reach =
    record {
      low = record { x = coarse reach.low.x; y = coarse reach.low.y; z = coarse reach.low.z };
      high = record { x = coarse reach.high.x; y = coarse reach.high.y; z = coarse reach.high.z };
      later_x = reach.later_x;
      later_y = reach.later_y;
      later_z = reach.later_z;
    }

-- its ends in such steps, low ones first, and what fills up eight
abbrev pub coarse_sides : Reach → List ℤ
coarse_sides reach =
    coarse reach.low.x ∷ coarse reach.low.y ∷ coarse reach.low.z
    ∷ coarse reach.high.x ∷ coarse reach.high.y ∷ coarse reach.high.z ∷ pos 0 ∷ pos 0 ∷ []

-- whether they meet in such steps: all boxes that meet do, and some that lie less than a step apart
abbrev pub may_meet : Reach → Extent → Bool
may_meet reach box = meets (coarse_reach reach) (coarse_box box)

-- a reach for the test in steps: its ends, and the lists of sides that are compared with its low ends
pub record IsRough (reach : Reach) (rough : Rough) : Type 0 where
  pub sides : rough.sides ≡ coarse_sides reach
  pub far_x : rough.far_x ≡ cond reach.later_x 0 3
  pub far_y : rough.far_y ≡ cond reach.later_y 1 4
  pub far_z : rough.far_z ≡ cond reach.later_z 2 5
