use Rattle.std.proofs.Common.{◌+◌, arith, refl}
use Rattle.p21_reader.specs.declared.table.Table.{Table}
use Rattle.p21_reader.proofs.PlainValues.{absent_more}
use Rattle.p21_reader.proofs.Tabled.{more_past}
use Rattle.p21_reader.proofs.table.pass_absent.Goals as goal

pub loop-end-init : goal.loop-end-init
loop-end-init c = record {
  within = c.requires.at;
  on = omega arith;
  few = omega arith;
  heads = refl;
  more = λ depth. (0, (refl, refl));
}

pub loop-end-preserved : goal.loop-end-preserved
loop-end-preserved c =
    let old = c.args.table.now in
    let now = c.loop-end.table in
    let end = c.loop-end.end in
    let i = c.loop-end.invariant in
    let items = c.in_ok-push.ensures.items in
    let new : Table = record { heads = now.heads; starts = c.push.new.self; values = c.saturating_add-table.result } in
    record {
      within = omega (arith, c.loop-end-test.true);
      on = omega (arith, i.on);
      few = more_past old.starts.items now.starts.items new.starts.items (end + 1) c.args.at end (end + 2) i.few items (omega arith);
      heads = i.heads;
      more =
          λ depth. absent_more depth c.args.bytes.now c.args.at end old now new c.loop-end-test.true c.if-bytes-end-eq44.true c.if-bytes-end-eq36.true items c.saturating_add-table.ensures
          (i.more depth);
    }
