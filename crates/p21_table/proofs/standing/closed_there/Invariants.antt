use Rattle.std.proofs.Common.{ℕ, ◌+◌, ◌-◌, ◌<◌, ◌≤◌, List, length}
use Rattle.p21_values.specs.Lexemes.{Lexeme, Cuts}
use Rattle.p21_values.specs.Standing.{Closes, Leaves}
use Rattle.p21_table.proofs.standing.closed_there.Given as goal

abbrev pub invariant-loop-at : goal.invariant-loop-at
invariant-loop-at l = record {
  within : l.at ≤ length l.bytes;
  some : 0 < l.depth;
  few : l.depth ≤ l.at + 1;
  left : (ls : List Lexeme) (end : ℕ) → Closes 1 ls → Cuts l.bytes l.fn.from ls end → Leaves l.bytes l.at l.depth end;
}

abbrev pub decreases-loop-at : goal.decreases-loop-at
decreases-loop-at l = length l.initial.bytes - l.at
