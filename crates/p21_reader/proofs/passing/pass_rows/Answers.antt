use Rattle.std.proofs.Common.{arith, inl, refl}
use Rattle.p21_reader.proofs.RowLemmas.{one_row_more}
use Rattle.p21_reader.proofs.passing.pass_rows.Goals as goal

pub loop-behind-init : goal.loop-behind-init
loop-behind-init c = record {
  within = c.requires.within;
  on = omega arith;
  rows = inl (refl, refl);
}

pub loop-behind-preserved : goal.loop-behind-preserved
loop-behind-preserved c =
    let l = c.loop-behind in
    let r = c.in-Some.ensures in
    record {
      within = r.within;
      on = omega (arith, l.invariant.on, r.on);
      rows = one_row_more c.args.bytes.now c.args.at l.end c.in-Some.behind c.args.count.now l.count c.saturating_add.result l.invariant.rows r.row c.saturating_add.ensures;
    }
