use Rattle.std.proofs.Common.{◌≡◌, ◌+◌, ◌-◌, ◌≤◌, length, drop, slice_range}
use Rattle.p21_lexer.specs.inner.TokenSpans.{name_run}
use Rattle.p21_lexer.specs.Spelling.{value_after}
use Rattle.p21_lexer.specs.declared.limits.TheConstants.{GREATEST_NAME}
use Rattle.p21_lexer.proofs.there.name_there.Given as goal

abbrev pub invariant-loop-end : goal.invariant-loop-end
invariant-loop-end l = record {
  within : l.end ≤ length l.bytes;
  on : l.from ≤ l.end;
  small : l.id ≤ GREATEST_NAME;
  run : l.from + name_run 0 (drop l.from l.bytes) ≡ l.end + name_run l.id (drop l.end l.bytes);
  value : value_after 0 (slice_range l.bytes l.from l.end) ≡ l.id;
}

abbrev pub decreases-loop-end : goal.decreases-loop-end
decreases-loop-end l = length l.initial.bytes - l.end
