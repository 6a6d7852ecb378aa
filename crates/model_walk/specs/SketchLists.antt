-- Sketches that are kept in few bytes.
use Rattle.std.specs.Prelude.{◌≡◌, ℕ, ◌<◌, ◌≤◌, List, length, ◌++◌, Option, Some, slice_index_or}
use Rattle.ifc_keywords.specs.Codes.{code_at}
use Rattle.placement.specs.declared.frame.Frame.{Frame}
use Rattle.model_walk.specs.declared.sketch_list.Note.{Note}
use Rattle.model_walk.specs.declared.sketch_list.Sketch.{Sketch}
use Rattle.model_walk.specs.declared.shape_pieces.Range.{Range}
use Rattle.walk_rows.specs.Pools.{slot_in}

-- the range at a place, and one of nothing past the end
abbrev pub range_in : List Range → ℕ → Range
range_in ranges at = slice_index_or ranges at (record { from = 0; to = 0; count = 0 })

-- the sketch of which a note says where its frame and its range are kept
abbrev pub sketch_in : List Frame → List Range → Note → Sketch
sketch_in frames ranges note = record {
  frame = slot_in frames note.frame;
  range = range_in ranges note.range;
}

-- what a note tells is there, among so many frames and ranges
pub record IsNoted (frames ranges : ℕ) (note : Note) : Type 0 where
  pub frame : note.frame ≤ frames
  pub range : note.range < ranges

-- a list grew after its end, or is the same
pub record IsLonger {T : Type 0} (old new : List T) : Type 0 where
  pub more : List T
  pub grown : new ≡ old ++ more

-- a frame is kept, so that its slot tells it
pub record KeepsFrame (frame : Option Frame) (frames : List Frame) (slot : ℕ) : Type 0 where
  pub within : slot ≤ length frames
  pub said : slot_in frames slot ≡ frame

-- a range is kept at a place
pub record KeepsRange (range : Range) (ranges : List Range) (at : ℕ) : Type 0 where
  pub within : at < length ranges
  pub said : range_in ranges at ≡ range

-- each keyword of that number is this word
abbrev pub IsWordOf : ℕ → List ℕ → Type 0
IsWordOf code word = (keyword : Option (List ℕ)) → code_at keyword ≡ code → keyword ≡ Some word
