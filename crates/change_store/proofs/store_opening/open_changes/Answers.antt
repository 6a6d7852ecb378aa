use Rattle.std.proofs.Common.{sym, ◌∙◌}
use Rattle.change_store.proofs.OpeningLemmas.{open_settled}
use Rattle.change_store.proofs.store_opening.open_changes.Goals as goal

pub begin-requires-clause-settled : goal.begin-requires-clause-settled
begin-requires-clause-settled g c clean =
    let sound = sym (c.is_broken.ensures clean) ∙ c.if-is_broken.false in
    open_settled _ (g.met.S.Store.broken_if_shut c.args.store) sound (c.requires.settled clean sound)
