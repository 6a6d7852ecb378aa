use Rattle.std.proofs.Common.{◌≡◌, ◌≤◌, ◌+◌, ◌-◌, length}
use Rattle.bim_model.specs.declared.limits.TheConstants.{MOST_UPLOAD}
use Rattle.bim_io.specs.Causes.{Loses}
use Rattle.bim_files.proofs.front.read_front.Given as goal

abbrev pub invariant-reads : goal.invariant-reads
invariant-reads g l = record {
  room : length l.room.items ≡ 65536;
  few : length l.bytes.items ≤ MOST_UPLOAD + 1;
  lost : Loses (g.S.Source.seen l.initial.source).left (g.S.Source.seen l.source).left l.bytes.items;
  quiet : (g.S.Source.seen l.source).faults ≡ (g.S.Source.seen l.initial.source).faults;
  named : g.S.NamedSource.name l.source ≡ g.S.NamedSource.name l.initial.source;
}

abbrev pub decreases-reads : goal.decreases-reads
decreases-reads g l = MOST_UPLOAD + 1 - length l.bytes.items
