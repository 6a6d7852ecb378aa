use Rattle.std.proofs.Common.{◌≡◌, ◌-◌, length}
use Rattle.http_frame.specs.declared.chunks.ChunkEnd.TheVariants.{More}
use Rattle.http_frame.specs.Chunks.{IsOrdered, Advances}
use Rattle.http_frame.proofs.chunks.read_chunks.Given as goal

abbrev pub invariant-loop-here : goal.invariant-loop-here
invariant-loop-here l = record {
  ordered : IsOrdered l.here (length l.bytes);
  going : l.here.end ≡ More;
  len : length l.bytes ≡ length l.initial.bytes;
  advances : Advances l.initial.bytes l.initial.here l.bytes l.here;
}

abbrev pub decreases-loop-here : goal.decreases-loop-here
decreases-loop-here l = length l.bytes - l.here.at
