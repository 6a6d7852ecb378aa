use Rattle.std.proofs.Common.{◌≡◌, ◌<◌, ℕ, false, length, get_or}
use Rattle.clash_publish.specs.declared.entry.Entry.{Entry}
use Rattle.clash_publish.specs.Shelves.{is_of}
use Rattle.clash_publish.proofs.shelf.Shelf.put.Given as goal

abbrev pub invariant-loop-place : goal.invariant-loop-place
invariant-loop-place l = record {
  same : l.self-inside.entries.items ≡ l.initial.self-inside.entries.items;
  end : l.place-end ≡ length l.self-inside.entries.items;
  before : (k : ℕ) (d : Entry) → k < l.place → is_of l.project l.version (get_or l.self-inside.entries.items k d) ≡ false;
}
