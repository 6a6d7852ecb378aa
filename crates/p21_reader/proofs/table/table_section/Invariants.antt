use Rattle.std.proofs.Common.{◌^◌, ◌-◌, ◌<◌, ◌≤◌, length}
use Rattle.p21_reader.proofs.Entries.{Entered}
use Rattle.p21_reader.proofs.table.table_section.Given as goal

abbrev pub invariant-loop-next : goal.invariant-loop-next
invariant-loop-next l = record {
  within : l.end ≤ length l.bytes;
  few : length l.table.starts.items ≤ l.end;
  counted : l.table.values < 2 ^ 64;
  read : Entered l.bytes l.fn.at l.end l.table;
}

abbrev pub decreases-loop-next : goal.decreases-loop-next
decreases-loop-next l = length l.initial.bytes - l.end
