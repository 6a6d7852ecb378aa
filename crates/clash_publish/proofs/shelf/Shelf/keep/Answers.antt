use Rattle.std.proofs.Common.{filter, ap, rules, ◌∙◌}
use Rattle.std.proofs.lemmas.Fn.{filter_same}
use Rattle.clash_publish.specs.declared.entry.Entry.{Entry}
use Rattle.clash_publish.specs.Shelves.{is_live}
use Rattle.clash_publish.proofs.Shelved.{kept_live}
use Rattle.clash_publish.proofs.shelf.Shelf.keep.Goals as goal

pub returns : goal.returns
returns c =
    let kept = filter_same _ (λ (e : Entry). is_live c.args.horizon.now.newest e.project e.version) _ (λ x b f k. search rules) _ _ c.retain.ensures.filtered in
    kept_live c.args.self.now c.retain.new.self.items c.args.horizon.now.newest (kept ∙ ap (filter (λ (e : Entry). is_live c.args.horizon.now.newest e.project e.version)) c.self.view_is)
