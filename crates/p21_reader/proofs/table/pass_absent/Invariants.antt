use Rattle.std.proofs.Common.{◌≡◌, ℕ, ◌+◌, ◌-◌, ◌≤◌, length}
use Rattle.p21_reader.specs.inner.Tabling.{PutsMore}
use Rattle.p21_reader.proofs.table.pass_absent.Given as goal

abbrev pub invariant-loop-end : goal.invariant-loop-end
invariant-loop-end l = record {
  within : l.end ≤ length l.bytes;
  on : l.fn.at ≤ l.end;
  few : length l.table.starts.items + l.fn.at ≤ length l.fn.table.starts.items + l.end;
  heads : l.table.heads.items ≡ l.fn.table.heads.items;
  more : (depth : ℕ) → PutsMore depth l.bytes l.fn.at l.fn.table l.table l.end;
}

abbrev pub decreases-loop-end : goal.decreases-loop-end
decreases-loop-end l = length l.initial.bytes - l.end
