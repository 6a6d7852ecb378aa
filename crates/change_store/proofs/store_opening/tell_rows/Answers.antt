use Rattle.std.proofs.Common.{ap, sym, subst, ◌∙◌, arith}
use Rattle.sqlite_value.specs.Order.{Row}
use Rattle.std.proofs.Common.{List}
use Rattle.change_store.specs.ChangeRows.{changes_in, taken_after, AreChangesAfter, last_after}
use Rattle.change_store.proofs.CommitLemmas.{on_ok, on_if_ok}
use Rattle.change_store.proofs.OpeningLemmas.{sought_all}
use Rattle.change_store.proofs.store_opening.tell_rows.Goals as goal

pub returns-in-Ok-clause-rows : goal.returns-in-Ok-clause-rows
returns-in-Ok-clause-rows g c =
    let same = sought_all (g.S.Store.view c.args.store.now) (g.S.Store.view c.seek.new.self) _ _ _ c.new-row.ensures in
    on_ok c.tell_left.result (λ all clean. subst (AreChangesAfter 0) (same (c.in-Ok.ensures.ok (omega (arith, c.tell_left.ensures.clean, clean)))) (all clean)) c.tell_left.ensures.rows

pub returns-in-Ok-clause-last : goal.returns-in-Ok-clause-last
returns-in-Ok-clause-last g c =
    let same = sought_all (g.S.Store.view c.args.store.now) (g.S.Store.view c.seek.new.self) _ _ _ c.new-row.ensures in
    on_if_ok c.tell_left.result (λ last is clean. is clean ∙ ap (last_after 0) (same (c.in-Ok.ensures.ok (omega (arith, c.tell_left.ensures.clean, clean))))) c.tell_left.ensures.last

pub returns-in-Ok-clause-taken : goal.returns-in-Ok-clause-taken
returns-in-Ok-clause-taken g c =
    let same = sought_all (g.S.Store.view c.args.store.now) (g.S.Store.view c.seek.new.self) _ _ _ c.new-row.ensures in
    on_ok c.tell_left.result (λ is clean. is clean ∙ ap (λ (rows : List Row). taken_after (g.R.ChangeReader.taken c.args.reader.now) (changes_in rows)) (same (c.in-Ok.ensures.ok (omega (arith, c.tell_left.ensures.clean, clean))))) c.tell_left.ensures.taken

pub returns-in-Ok-clause-bad : goal.returns-in-Ok-clause-bad
returns-in-Ok-clause-bad g c is clean all =
    let same = sought_all (g.S.Store.view c.args.store.now) (g.S.Store.view c.seek.new.self) _ _ _ c.new-row.ensures in
    c.tell_left.ensures.bad is clean (subst (AreChangesAfter 0) (sym (same (c.in-Ok.ensures.ok (omega (arith, c.tell_left.ensures.clean, clean))))) all)
