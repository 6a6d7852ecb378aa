use Rattle.std.proofs.Common.{◌≡◌, ◌-◌, ◌≤◌, length, slice_range, true}
use Rattle.std.specs.List.{list_all}
use Rattle.bim_text.specs.TextSpellings.{is_plain}
use Rattle.p21_table.proofs.first_byte.plain_by_bytes.Given as goal

abbrev pub invariant-loop-end : goal.invariant-loop-end
invariant-loop-end l = record {
  on : l.from ≤ l.end;
  within : l.end ≤ length l.bytes;
  plain : list_all is_plain (slice_range l.bytes l.from l.end) ≡ true;
}

abbrev pub decreases-loop-end : goal.decreases-loop-end
decreases-loop-end l = length l.initial.bytes - l.end
