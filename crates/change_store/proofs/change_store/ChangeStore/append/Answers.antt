use Rattle.std.proofs.Common.{ap, ◌∙◌, inl, inr, ⊎_elim, arith}
use Rattle.sqlite_trees.specs.Tree.{Trees}
use Rattle.change_store.specs.ChangeRows.{change_of, row_of, changes_in}
use Rattle.change_store.proofs.RowLemmas.{changes_of_more}
use Rattle.change_store.proofs.CommitLemmas.{named_cause}
use Rattle.change_store.proofs.change_store.ChangeStore.append.Goals as goal

pub invariant_of-self : goal.invariant_of-self
invariant_of-self g c = record {
  ready = λ clean unsealed. c.in-Ok.ensures.ready clean;
  found = λ clean db left. ⊎_elim (λ old. c.self.invariant.found (omega (arith, c.commit_row.ensures.clean, clean)) db old) (λ new. new.0) (c.commit_row.ensures.crash clean db left);
}

pub returns-in-Ok-clause-added : goal.returns-in-Ok-clause-added
returns-in-Ok-clause-added g c =
    rw (← c.self.view_is) (λ clean. ap changes_in (c.in-Ok.ensures.rows clean) ∙ changes_of_more ((g.S.Store.view c.self.inside.store).committed 0) (row_of (change_of c.args.turn c.args.project c.args.bytes.now)))

pub returns-in-Ok-clause-durable : goal.returns-in-Ok-clause-durable
returns-in-Ok-clause-durable g c =
    λ clean found may. may.2 ∙ ap (λ (db : Trees). changes_in (db 0)) (g.met.S.Store.settled c.commit_row.new.store may.0 (c.in-Ok.ensures.ready clean).settled.is_open may.1)

pub returns-in-Ok-clause-any_moment : goal.returns-in-Ok-clause-any_moment
returns-in-Ok-clause-any_moment g c =
    rw (← c.self.view_is)
    (λ clean unsealed found may.
    let was = c.self.invariant.ready (omega (arith, c.commit_row.ensures.clean, clean)) unsealed in
    ⊎_elim
    (λ old. inl (may.2 ∙ ap (λ (db : Trees). changes_in (db 0)) (g.met.S.Store.settled c.self.inside.store may.0 was.settled.is_open old)))
    (λ new. inr (may.2 ∙ ap changes_in new.1 ∙ changes_of_more ((g.S.Store.view c.self.inside.store).committed 0) (row_of (change_of c.args.turn c.args.project c.args.bytes.now))))
    (c.commit_row.ensures.crash clean may.0 may.1))

pub returns-in-Err-clause-any_moment : goal.returns-in-Err-clause-any_moment
returns-in-Err-clause-any_moment g c =
    rw (← c.self.view_is)
    (λ clean unsealed found may.
    let was = c.self.invariant.ready (omega (arith, c.commit_row.ensures.clean, clean)) unsealed in
    ⊎_elim
    (λ old. inl (may.2 ∙ ap (λ (db : Trees). changes_in (db 0)) (g.met.S.Store.settled c.self.inside.store may.0 was.settled.is_open old)))
    (λ new. inr (may.2 ∙ ap changes_in new.1 ∙ changes_of_more ((g.S.Store.view c.self.inside.store).committed 0) (row_of (change_of c.args.turn c.args.project c.args.bytes.now))))
    (c.commit_row.ensures.crash clean may.0 may.1))

pub returns-in-Err-clause-cause : goal.returns-in-Err-clause-cause
returns-in-Err-clause-cause g c =
    rw (← c.self.view_is) (λ clean. rw c.append_fault.ensures.value (named_cause _ _ _ c.in-Err.error (c.in-Err.ensures.cause clean)))
