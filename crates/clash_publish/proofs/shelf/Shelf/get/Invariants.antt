use Rattle.std.proofs.Common.{◌≡◌, ◌<◌, ℕ, false, get_or}
use Rattle.clash_publish.specs.declared.entry.Entry.{Entry}
use Rattle.clash_publish.specs.Shelves.{is_of}
use Rattle.clash_publish.proofs.shelf.Shelf.get.Given as goal

abbrev pub invariant-loop-entry : goal.invariant-loop-entry
invariant-loop-entry l = (k : ℕ) (d : Entry) → k < l.entry-index → is_of l.project l.version (get_or l.entry-items k d) ≡ false
