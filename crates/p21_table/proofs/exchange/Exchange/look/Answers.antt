use Rattle.std.proofs.Common.{Some, ap, ◌∙◌, sym}
use Rattle.std.proofs.lemmas.Option.{get_or_from_slice_get}
use Rattle.p21_values.proofs.PlaceLemmas.{found_at}
use Rattle.p21_table.proofs.exchange.Exchange.look.Goals as goal

pub returns-in-Some : goal.returns-in-Some
returns-in-Some c =
    let world = c.args.self.now in
    let i = c.instance.result in
    sym (found_at world c.args.id c.in-Some.at i c.in-Some.ensures ∙ ap Some (get_or_from_slice_get world c.in-Some.at i i c.instance.ensures))
