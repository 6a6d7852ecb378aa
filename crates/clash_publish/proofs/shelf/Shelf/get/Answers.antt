use Rattle.std.proofs.Common.{List, ap, sym, arith, ◌∙◌}
use Rattle.std.specs.Option.{option_map}
use Rattle.clash_publish.specs.declared.entry.Entry.{Entry}
use Rattle.clash_publish.specs.Shelves.{is_of, set_of}
use Rattle.clash_publish.proofs.Shelved.{find_here, find_none}
use Rattle.clash_publish.proofs.shelf.Shelf.get.Goals as goal

pub returns-then-is_of : goal.returns-then-is_of
returns-then-is_of c =
    let items = c.deref-entry-items.ensures.value ∙ c.self.view_is in
    let found = find_here (is_of c.args.project c.args.version) c.deref-entry-items.result.now c.loop-entry.entry-index c.entry-item.result c.loop-entry-test.true c.entry-item.is (sym c.is_of.ensures ∙ c.if-is_of.true) c.loop-entry.invariant in
    sym (ap (option_map (λ (e : Entry). e.set)) found) ∙ ap (λ (l : List Entry). set_of l c.args.project c.args.version) items

pub returns : goal.returns
returns c =
    let items = c.deref-entry-items.ensures.value ∙ c.self.view_is in
    let found = find_none (is_of c.args.project c.args.version) c.deref-entry-items.result.now (λ k d within. c.loop-entry.invariant k d (omega (arith, within, c.loop-entry-test.false))) in
    sym (ap (option_map (λ (e : Entry). e.set)) found) ∙ ap (λ (l : List Entry). set_of l c.args.project c.args.version) items
