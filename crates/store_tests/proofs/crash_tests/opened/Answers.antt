use Rattle.sqlite_store.specs.FileStore.{view}
use Rattle.sqlite_store.specs.Laws.{shut_is_broken}
use Rattle.change_store.proofs.OpeningLemmas.{undone_settled}
use Rattle.store_tests.proofs.crash_tests.opened.Goals as goal

pub open_changes-requires-clause-settled : goal.open_changes-requires-clause-settled
open_changes-requires-clause-settled c clean sound =
    undone_settled (view c.in-Ok.connection.store) (view c.into_store.result) c.into_store.ensures.undone clean (shut_is_broken c.into_store.result) sound
