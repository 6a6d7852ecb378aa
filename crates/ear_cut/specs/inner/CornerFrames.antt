-- Frames, rectangles of a view round runs of corners.
use Rattle.std.specs.Prelude.{ℕ, ◌≡◌, ◌+◌, ◌*◌, ◌<◌, ◌≤◌, pos, ◌≤ℤ◌, int_lt, Bool, ◌||◌, List, length, slice_index_or, remove, Option, Some, None}
use Rattle.ear_cut.specs.declared.polygon_view.View.{View}
use Rattle.ear_cut.specs.declared.corners.Corner.{Corner}
use Rattle.ear_cut.specs.declared.corner_frames.Frame.{Frame}
use Rattle.ear_cut.specs.declared.corner_frames.Frames.{Frames}
use Rattle.ear_cut.specs.declared.corner_frames.TheConstants.{RUN}
use Rattle.ear_cut.specs.PolygonViews.{Spot, seen}
use Rattle.ear_cut.specs.Corners.{nobody}

-- the number of corners of a run
abbrev pub run : ℕ
run = RUN

-- the frame of the point at zero
abbrev pub point_frame : Frame
point_frame = record { low_u = pos 0; high_u = pos 0; low_v = pos 0; high_v = pos 0 }

-- the spot lies in the frame
pub record IsIn (f : Frame) (p : Spot) : Type 0 where
  pub low_u : f.low_u ≤ℤ p.u
  pub high_u : p.u ≤ℤ f.high_u
  pub low_v : f.low_v ≤ℤ p.v
  pub high_v : p.v ≤ℤ f.high_v

-- one of the frames ends before the other begins, so no spot lies in both
abbrev pub is_apart : Frame → Frame → Bool
is_apart f g = int_lt f.high_u g.low_u
    || (int_lt g.high_u f.low_u || (int_lt f.high_v g.low_v || int_lt g.high_v f.low_v))

-- the frame is round the corners from the i-th up to below the j-th, as far as there are such
abbrev pub IsRound : View → List Corner → Frame → ℕ → ℕ → Type 0
IsRound view left f i j = (k : ℕ) → i ≤ k → k < j → k < length left
    → IsIn f (seen view.axis (slice_index_or left k nobody).point)

-- frame b was round the runs b and b + 1 before the last `gone` corners were taken out: what is left of these runs
-- has moved down by `gone` places at most
pub record AreRound (view : View) (left : List Corner) (runs : List Frame) (gone : ℕ) : Type 0 where
  pub count : length left ≤ run * length runs
  pub each : (b k : ℕ) → run * b ≤ k → k + gone < run * b + (run + run) → k < length left
      → IsIn (slice_index_or runs b point_frame) (seen view.axis (slice_index_or left k nobody).point)

-- so few corners were taken out that frame b still is round the run b
pub record AreFrames (view : View) (left : List Corner) (frames : Frames) : Type 0 where
  pub round : AreRound view left frames.runs.items frames.gone
  pub few : frames.gone ≤ run

-- without a view there are no ears, and no frames are asked
abbrev pub AreFramesIn : Option View → List Corner → Frames → Type 0
AreFramesIn (Some view) left frames = AreFrames view left frames
AreFramesIn None left frames = Unit

-- corners from which one was taken out, with the frames from before
pub record AreFramesBefore (view : Option View) (left : List Corner) (frames : Frames) : Type 0 where
  pub from : List Corner
  pub i : ℕ
  pub i_in : i < length from
  pub left_is : left ≡ remove from i
  pub framed : AreFramesIn view from frames
