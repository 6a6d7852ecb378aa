use Rattle.std.proofs.Common.{◌≢◌, ℕ, ◌+◌, ◌<◌, List, get_or}
use Rattle.model_walk.proofs.walking.alternate.Given as goal

abbrev pub invariant-loop-at : goal.invariant-loop-at
invariant-loop-at l = (k : ℕ) (d : List ℕ) → k + 1 < l.at → get_or l.guids k d ≢ get_or l.guids (k + 1) d
