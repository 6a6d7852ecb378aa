use Rattle.std.proofs.Common.{◌≡◌, ℕ, ◌<◌, length}
use Rattle.model_walk.specs.Checked.{CleanThere}
use Rattle.model_walk.specs.inner.PooledSets.{AreReadSets}
use Rattle.model_walk.proofs.walking.sets_in.Given as goal

abbrev pub invariant-loop-at : goal.invariant-loop-at
invariant-loop-at l = (length l.sets ≡ length l.exchange) × AreReadSets l.exchange l.scale l.mode l.points l.sets × ((k : ℕ) → k < l.at → CleanThere l.exchange l.scale l.mode k)
