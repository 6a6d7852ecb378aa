use Rattle.std.proofs.Common.{subst, arith}
use Rattle.sqlite_trees.specs.Tree.{Trees}
use Rattle.sqlite_trees.specs.View.{IsClean}
use Rattle.sqlite_store.specs.FileStore.{view}
use Rattle.sqlite_store.specs.Laws.{shut_is_broken}
use Rattle.sqlite.specs.Files.{over_files}
use Rattle.change_store.specs.StoreReads.{Begins}
use Rattle.change_store.specs.StoreStates.{held}
use Rattle.change_store.proofs.OpeningLemmas.{undone_trees, undone_settled}
use Rattle.change_store.proofs.store_path.open_store.Goals as goal

pub open_changes-requires-clause-settled : goal.open_changes-requires-clause-settled
open_changes-requires-clause-settled g c clean sound =
    undone_settled (view c.in-Ok.connection.store) (view c.into_store.result) c.into_store.ensures.undone clean (shut_is_broken c.into_store.result) sound

pub returns-in-Ok-open_changes-clause-found : goal.returns-in-Ok-open_changes-clause-found
returns-in-Ok-open_changes-clause-found g c clean =
    let between : IsClean (view c.into_store.result) = omega (arith, c.in-Ok-open_changes.ensures.clean, clean) in
    let before : IsClean (view c.in-Ok.connection.store) = omega (arith, c.into_store.ensures.quiet.clean, between) in
    let sound = c.in-Ok-open_changes.ensures.sound clean in
    let same = undone_trees (view c.in-Ok.connection.store) (view c.into_store.result) c.into_store.ensures.undone (shut_is_broken c.into_store.result) sound in (
      (view c.in-Ok.connection.store).committed,
      (c.in-Ok.ensures.found before).reads,
      subst (λ (db : Trees). Begins db (held over_files c.in-Ok-open_changes.store)) same (c.in-Ok-open_changes.ensures.found clean),
    )
