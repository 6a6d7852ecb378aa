use Rattle.std.proofs.Common.{sym, ◌∙◌}
use Rattle.faceset.proofs.Reaching.{rows_told}
use Rattle.faceset.proofs.bad.has_bad_rows.Goals as goal

pub returns-clause-bad : goal.returns-clause-bad
returns-clause-bad c =
    rows_told c.args.exchange.now c.args.set.now c.listed-2.result c.args.count c.has_bad_face.result (sym c.is_polygonal.ensures ∙ c.if-not-is_polygonal.false) c.listed-2.ensures c.has_bad_face.ensures.bad
