use Rattle.std.proofs.Common.{◌≡◌, ℕ, ◌*◌, ◌<◌, get_or, Some, Contains}
use Rattle.placement.specs.declared.frame.Frame.{Frame}
use Rattle.ifc_units.specs.Lengths.{reach}
use Rattle.placement.specs.Placed.{AllPlaced, AllWithin, frame_in}
use Rattle.placement.proofs.frames.Frames.of.Given as goal

abbrev pub invariant-loop-id : goal.invariant-loop-id
invariant-loop-id l = record {
  placed : AllPlaced l.exchange l.scale l.mode (frame_in l.frames);
  near : AllWithin (l.id-index * reach) (frame_in l.frames);
  listed : (id : ℕ) (f : Frame) → frame_in l.frames id ≡ Some f → Contains l.id-items id;
  all : (k : ℕ) → k < l.id-index → (f : Frame) × (frame_in l.frames (get_or l.id-items k 0) ≡ Some f);
}
