use Rattle.std.proofs.Common.{◌≡◌, ◌+◌, ◌-◌, ◌≤◌, length}
use Rattle.p21_reader.proofs.Tabled.{Putting}
use Rattle.p21_reader.proofs.table.attributes.Given as goal

abbrev pub invariant-items : goal.invariant-items
invariant-items l = record {
  within : l.end ≤ length l.bytes;
  on : l.fn.at ≤ l.end;
  few : length l.table.starts.items + l.fn.at ≤ length l.fn.table.starts.items + l.end;
  heads : l.table.heads.items ≡ l.fn.table.heads.items;
  read : Putting l.fn.depth l.bytes l.fn.at l.end l.fn.table l.table;
}

abbrev pub decreases-items : goal.decreases-items
decreases-items l = length l.initial.bytes - l.end
