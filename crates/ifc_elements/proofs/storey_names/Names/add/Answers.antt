use Rattle.std.proofs.Common.{Some, sym, ap, ◌∙◌, option_map}
use Rattle.std.proofs.lemmas.Result.{on_ok_weaker}
use Rattle.ifc_elements.specs.ElementTexts.{name_of}
use Rattle.ifc_elements.proofs.NamesKept.{names_put}
use Rattle.ifc_elements.proofs.storey_names.Names.add.Goals as goal

pub returns : goal.returns
returns c = λ are.
    let looked = sym c.look.ensures ∙ c.in-Some.is in
    let at = ap (option_map name_of) looked ∙ ap Some (sym c.in_ok-name.ensures) in
    on_ok_weaker c.put.result (λ puts. names_put c.args.exchange.now c.args.self.now c.put.new.self c.args.id c.in_ok-name.name are at puts) c.put.ensures
