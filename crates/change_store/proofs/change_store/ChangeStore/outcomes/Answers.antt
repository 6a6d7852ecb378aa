use Rattle.std.proofs.Common.{refl, sym, ap, subst, ◌∙◌}
use Rattle.std.proofs.Math.Logic.{∥∥₁_map}
use Rattle.sqlite_trees.specs.Tree.{Trees}
use Rattle.change_store.specs.ChangeRows.{changes_in, HasRisingTurns}
use Rattle.change_store.proofs.RowLemmas.{rising}
use Rattle.change_store.proofs.change_store.ChangeStore.outcomes.Goals as goal

pub returns-clause-some : goal.returns-clause-some
returns-clause-some g c =
    rw (← c.self.view_is) (λ clean. ∥∥₁_map (g.met.S.Store.survives c.self.inside.store clean) (λ left. (changes_in (left.0 0), (left.0, left.1, refl))))

pub returns-clause-settled : goal.returns-clause-settled
returns-clause-settled g c =
    rw (← c.self.view_is)
    (λ clean unsealed found may.
    let ready = c.self.invariant.ready clean unsealed in
    may.2 ∙ ap (λ (db : Trees). changes_in (db 0)) (g.met.S.Store.settled c.self.inside.store may.0 ready.settled.is_open may.1))

pub returns-clause-rising : goal.returns-clause-rising
returns-clause-rising g c =
    rw (← c.self.view_is) (λ clean found may. subst HasRisingTurns (sym may.2) (rising 0 (may.0 0) (c.self.invariant.found clean may.0 may.1).rows))

pub returns-clause-sound : goal.returns-clause-sound
returns-clause-sound g c = rw (← c.self.view_is) (λ clean db left. c.self.invariant.found clean db left)
