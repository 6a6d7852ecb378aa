use Rattle.std.proofs.Common.{◌≡◌, ◌++◌, length}
use Rattle.batch_commands.proofs.generate.all_bytes.Given as goal

abbrev pub invariant-asks : goal.invariant-asks
invariant-asks l = l.initial.pieces ≡ l.bytes.items ++ l.pieces

abbrev pub decreases-asks : goal.decreases-asks
decreases-asks l = length l.pieces
