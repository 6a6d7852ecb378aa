use Rattle.std.proofs.Common.{inr, refl}
use Rattle.p21_reader.proofs.passing.pass_more.Goals as goal

pub returns-then-holds_lists-clause-more : goal.returns-then-holds_lists-clause-more
returns-then-holds_lists-clause-more c =
    let h = c.holds_lists.ensures in
    let t = c.if-holds_lists.true in
    inr (refl, h.behind t, h.some t, h.deep t, h.lists t, c.pass_rows-end.ensures.rows)
