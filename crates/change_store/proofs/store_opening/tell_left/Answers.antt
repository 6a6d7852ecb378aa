use Rattle.std.proofs.Common.{arith}
use Rattle.sqlite_trees.specs.View.{IsClean}
use Rattle.sqlite_exec.specs.Loops.{left_of}
use Rattle.change_store.proofs.CommitLemmas.{handed_on}
use Rattle.change_store.proofs.OpeningLemmas.{told_more, told_bad, reads_on}
use Rattle.change_store.proofs.store_opening.tell_left.Goals as goal

pub returns-in-Err-clause-bad : goal.returns-in-Err-clause-bad
returns-in-Err-clause-bad g c is clean all =
    let before : IsClean (g.S.Store.view c.rows.store) = omega (arith, c.tell_next.ensures.clean, clean) in
    let refused = c.in-Err.ensures.bad (handed_on c.in-Err.fault _ is) clean in
    told_bad (left_of (g.S.Store.view c.args.store.now) 0) (left_of (g.S.Store.view c.rows.store) 0) (left_of (g.S.Store.view c.tell_next.new.store) 0) c.tell_next.new.row c.rows.last
    (g.R.ChangeReader.taken c.args.reader.now) (g.R.ChangeReader.taken c.rows.reader) (c.rows.invariant.4 before) refused.0 refused.1 all

pub rows-preserved : goal.rows-preserved
rows-preserved g c = (
  c.in-Ok-Some.ensures.live,
  omega (arith, c.rows.invariant.1, c.tell_next.ensures.clean),
  λ db left. c.rows.invariant.2 db (c.tell_next.ensures.crash db left),
  λ clean. reads_on (g.S.Store.view c.args.store.now) (g.S.Store.view c.rows.store) (g.S.Store.view c.tell_next.new.store) (c.rows.invariant.3 (omega (arith, c.tell_next.ensures.clean, clean))) (c.in-Ok-Some.ensures.same clean),
  λ clean. let told = rw c.in-Ok-Some.field-0-is at (c.in-Ok-Some.ensures.left clean) in
      told_more (left_of (g.S.Store.view c.args.store.now) 0) (left_of (g.S.Store.view c.rows.store) 0) (left_of (g.S.Store.view c.tell_next.new.store) 0) c.tell_next.new.row c.rows.last c.in-Ok-Some.turn
      (g.R.ChangeReader.taken c.args.reader.now) (g.R.ChangeReader.taken c.rows.reader) (g.R.ChangeReader.taken c.tell_next.new.reader) (c.rows.invariant.4 (omega (arith, c.tell_next.ensures.clean, clean))) told.0 told.1 told.2 (rw c.in-Ok-Some.field-0-is at c.in-Ok-Some.ensures.taken),
)
