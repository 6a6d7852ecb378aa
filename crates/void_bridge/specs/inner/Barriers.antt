-- The edges that the code keeps, with a frame round each run of them.
use Rattle.std.specs.Prelude.{ℕ, ◌≡◌, ◌+◌, ◌*◌, ◌<◌, ◌≤◌, pos, ◌≤ℤ◌, int_lt, Bool, ◌||◌, false, List, length, slice_index_or, map}
use Rattle.std.specs.List.{list_any}
use Rattle.ear_cut.specs.declared.polygon_view.View.{View}
use Rattle.ear_cut.specs.PolygonViews.{Spot}
use Rattle.ear_cut.specs.Registers.{as_spot}
use Rattle.void_bridge.specs.declared.barriers.Edge.{Edge}
use Rattle.void_bridge.specs.declared.barriers.Frame.{Frame}
use Rattle.void_bridge.specs.declared.barriers.Barriers.{Barriers}
use Rattle.void_bridge.specs.declared.barriers.TheConstants.{RUN}
use Rattle.void_bridge.specs.LoopEdges.{Segment, segment, collide}

-- an edge in registers as a segment
abbrev pub as_segment : Edge → Segment
as_segment e = segment (as_spot e.a) (as_spot e.b)

-- the edges that are kept
abbrev pub segments_of : Barriers → List Segment
segments_of barriers = map as_segment barriers.edges.items

-- the number of edges of a run
abbrev pub run : ℕ
run = RUN

-- the frame of the point at zero
abbrev pub point_frame : Frame
point_frame = record { low_u = pos 0; high_u = pos 0; low_v = pos 0; high_v = pos 0 }

-- the segment of the point at zero
abbrev pub point_segment : Segment
point_segment = segment (record { u = pos 0; v = pos 0 }) (record { u = pos 0; v = pos 0 })

-- a spot lies in the frame
pub record IsInFrame (f : Frame) (p : Spot) : Type 0 where
  pub low_u : f.low_u ≤ℤ p.u
  pub high_u : p.u ≤ℤ f.high_u
  pub low_v : f.low_v ≤ℤ p.v
  pub high_v : p.v ≤ℤ f.high_v

-- both ends of a segment lie in the frame
pub record IsFramed (f : Frame) (s : Segment) : Type 0 where
  pub a_in : IsInFrame f s.a
  pub b_in : IsInFrame f s.b

-- one of the frames ends before the other begins
abbrev pub are_apart : Frame → Frame → Bool
are_apart f g = int_lt f.high_u g.low_u
    || (int_lt g.high_u f.low_u || (int_lt f.high_v g.low_v || int_lt g.high_v f.low_v))

-- each edge lies in the frame of its run, and there are as many frames as runs
pub record AreFramed (frames : List Frame) (edges : List Segment) : Type 0 where
  pub enough : length edges ≤ run * length frames
  pub least : run * length frames < length edges + run
  pub each : (b k : ℕ) → run * b ≤ k → k < run * b + run → k < length edges
      → IsFramed (slice_index_or frames b point_frame) (slice_index_or edges k point_segment)

-- what is kept has its frames
abbrev pub AreBarriers : Barriers → Type 0
AreBarriers barriers = AreFramed barriers.frames.items (segments_of barriers)

-- the bridge doesn't collide with the k-th of the edges
abbrev pub IsPassed : View → Segment → List Segment → ℕ → Type 0
IsPassed view bridge edges k = collide view bridge (slice_index_or edges k point_segment) ≡ false

-- the same tests find one in both lists
abbrev pub AreSame : List Segment → List Segment → Type 0
AreSame es fs = (test : Segment → Bool) → list_any test es ≡ list_any test fs
