-- Frames that carry points.
use Rattle.std.specs.Prelude.{◌≡◌, ℕ, Option, Some}
use Rattle.placement.specs.declared.frame.Frame.{Frame}
use Rattle.placement.specs.Frames.{IsFrame, AreWithin, most}

-- the axes lie in three directions, and the offset is within 10^15
abbrev pub Framed : Frame → Type 0
Framed frame = IsFrame frame × AreWithin most frame.offset

-- each of the frames is like that
abbrev pub AllFramed : (ℕ → Option Frame) → Type 0
AllFramed frames = (id : ℕ) (frame : Frame) → frames id ≡ Some frame → Framed frame
