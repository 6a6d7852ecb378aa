use Rattle.std.proofs.Common.{◌-◌, ◌≤◌, length}
use Rattle.p21_reader.proofs.Statements.{Stated}
use Rattle.p21_reader.proofs.header.statements.Given as goal

abbrev pub invariant-loop-word : goal.invariant-loop-word
invariant-loop-word l = record {
  within : l.place ≤ length l.bytes;
  read : Stated l.bytes l.fn.at l.place l.schema;
}

abbrev pub decreases-loop-word : goal.decreases-loop-word
decreases-loop-word l = length l.initial.bytes - l.place
