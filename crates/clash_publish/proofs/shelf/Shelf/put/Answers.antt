use Rattle.std.proofs.Common.{◌≡◌, ◌<◌, true, cond, eqb, ◌&&◌, Some, List, length, set, refl, ap, sym, subst, arith, ◌∙◌}
use Rattle.std.proofs.lemmas.List.{get_or_default}
use Rattle.clash_publish.specs.declared.entry.Entry.{Entry}
use Rattle.clash_publish.specs.Shelves.{is_of, set_of}
use Rattle.clash_publish.proofs.Shelved.{put_over, put_behind}
use Rattle.clash_publish.proofs.shelf.Shelf.put.Goals as goal

pub returns-then-is_of-clause-ok : goal.returns-then-is_of-clause-ok
returns-then-is_of-clause-ok c p v =
    let items = c.loop-place.self-inside.entries.items in
    let place = c.loop-place.place in
    let old : Entry = c.index_mut.result.now in
    let made : Entry = record { project = old.project; version = old.version; set = c.args.set } in
    let within : place < length items = subst (λ n. place < n) c.loop-place.invariant.end c.loop-place-test.true in
    let at : c.index.result.now ≡ old = c.index.ensures ∙ get_or_default items place c.index.result.now old within ∙ sym c.index_mut.ensures.value in
    let hit : is_of c.args.project c.args.version old ≡ true = sym (c.is_of.ensures ∙ ap (is_of c.args.project c.args.version) at) ∙ c.if-is_of.true in
    put_over items (set items place made) place c.args.project c.args.version c.args.set old made within c.index_mut.ensures.value hit c.loop-place.invariant.before refl refl p v
    ∙ ap (λ (l : List Entry). cond (eqb c.args.project p && eqb c.args.version v) (Some c.args.set) (set_of l p v)) (c.loop-place.invariant.same ∙ c.self.view_is)

pub returns-clause-ok : goal.returns-clause-ok
returns-clause-ok c p v =
    put_behind c.loop-place.self-inside.entries.items c.push.new.self.items c.args.project c.args.version c.args.set
    (λ k d within. c.loop-place.invariant.before k d (omega (arith, within, c.loop-place.invariant.end, c.loop-place-test.false))) c.in_ok-push.ensures.items p v
    ∙ ap (λ (l : List Entry). cond (eqb c.args.project p && eqb c.args.version v) (Some c.args.set) (set_of l p v)) (c.loop-place.invariant.same ∙ c.self.view_is)
