use Rattle.std.proofs.Common.{◌≤◌, IsSome}
use Rattle.sqlite_trees.specs.Tree.{Trees}
use Rattle.sqlite_trees.specs.View.{IsClean, doubt}
use Rattle.sqlite_exec.specs.Calls.{OnlyReads}
use Rattle.sqlite_exec.specs.Loops.{left_of}
use Rattle.change_store.proofs.OpeningLemmas.{Told}
use Rattle.change_store.proofs.store_opening.tell_left.Given as goal

abbrev pub invariant-rows : goal.invariant-rows
invariant-rows g l =
    let old = g.S.Store.view l.fn.store in
    let now = g.S.Store.view l.store in
    IsSome (now.cursors 0) × (doubt old.is_clean ≤ doubt now.is_clean) × ((db : Trees) → g.S.Store.recovers l.store db → g.S.Store.recovers l.fn.store db)
    × (IsClean now → OnlyReads old now)
    × (IsClean now → Told (left_of old 0) (left_of now 0) l.last (g.R.ChangeReader.taken l.fn.reader) (g.R.ChangeReader.taken l.reader))
