use Rattle.std.proofs.Common.{ap, sym, subst, ◌∙◌, inl, inr, ⊎_elim, arith}
use Rattle.sqlite_trees.specs.View.{IsClean}
use Rattle.change_store.specs.ChangeRows.{change_of, IsOfChanges}
use Rattle.change_store.proofs.CommitLemmas.{rows_put, trees_put, ready_again, rows_committed, row_storable, append_cause, sound_after, on_ok, on_err}
use Rattle.change_store.proofs.change_rows.commit_row.Goals as goal

pub returns-in-Ok-clause-ready : goal.returns-in-Ok-clause-ready
returns-in-Ok-clause-ready g c =
    on_ok c.commit.result
    (λ commits clean.
    let between : IsClean (g.S.Store.view c.put.new.self) = omega (arith, c.commit.ensures.clean, clean) in
    let before : IsClean (g.S.Store.view c.args.store.now) = omega (arith, c.put.ensures.quiet.clean, between) in
    ready_again _ _ _ c.args.last (change_of c.args.turn c.args.project c.args.bytes.now) _ c.in_ok-fill.ensures c.requires.later (omega arith) (c.requires.ready before) (c.in-Ok.ensures.ok between) (commits clean))
    c.commit.ensures.ok

pub returns-in-Ok-clause-rows : goal.returns-in-Ok-clause-rows
returns-in-Ok-clause-rows g c =
    on_ok c.commit.result
    (λ commits clean.
    let between : IsClean (g.S.Store.view c.put.new.self) = omega (arith, c.commit.ensures.clean, clean) in
    let before : IsClean (g.S.Store.view c.args.store.now) = omega (arith, c.put.ensures.quiet.clean, between) in
    rows_committed _ _ _ c.args.last (change_of c.args.turn c.args.project c.args.bytes.now) _ c.in_ok-fill.ensures c.requires.later (c.requires.ready before) (c.in-Ok.ensures.ok between) (commits clean))
    c.commit.ensures.ok

pub returns-in-Ok-clause-crash : goal.returns-in-Ok-clause-crash
returns-in-Ok-clause-crash g c clean db left =
    let between : IsClean (g.S.Store.view c.put.new.self) = omega (arith, c.commit.ensures.clean, clean) in
    let before : IsClean (g.S.Store.view c.args.store.now) = omega (arith, c.put.ensures.quiet.clean, between) in
    let ready = c.requires.ready before in
    let change = change_of c.args.turn c.args.project c.args.bytes.now in
    let sets = c.in-Ok.ensures.ok between in
    ⊎_elim
    (λ new. inr (subst IsOfChanges (sym new.1) (trees_put _ _ c.args.last change _ c.in_ok-fill.ensures c.requires.later (omega arith) ready sets), ap (λ t. t 0) new.1 ∙ rows_put _ _ c.args.last change _ c.in_ok-fill.ensures c.requires.later ready sets))
    (λ old. inl (c.put.ensures.quiet.outcomes db old))
    (c.commit.ensures.crash db left)

pub returns-in-Ok-clause-cause : goal.returns-in-Ok-clause-cause
returns-in-Ok-clause-cause g c clean =
    let between : IsClean (g.S.Store.view c.put.new.self) = omega (arith, c.commit.ensures.clean, clean) in
    let before : IsClean (g.S.Store.view c.args.store.now) = omega (arith, c.put.ensures.quiet.clean, between) in
    let sound = sound_after _ _ _ (c.in-Ok.ensures.ok between) (c.requires.ready before).settled.sound in
    on_err c.commit.result (λ e h. append_cause (g.S.Store.view c.put.new.self) _ _ _ _ e sound c.put.ensures.quiet.counts (λ x. x) h) (c.commit.ensures.cause clean)

pub returns-in-Err-clause-cause : goal.returns-in-Err-clause-cause
returns-in-Err-clause-cause g c clean =
    let before : IsClean (g.S.Store.view c.args.store.now) = omega (arith, c.put.ensures.quiet.clean, clean) in
    let ready = c.requires.ready before in
    append_cause (g.S.Store.view c.args.store.now) _ _ _ _ c.in-Err.error ready.settled.sound (omega arith) (λ none. none (rw (c.in_ok-fill.ensures, ready.table.plain) (row_storable (change_of c.args.turn c.args.project c.args.bytes.now) (omega arith)))) (c.in-Err.ensures.cause clean)
