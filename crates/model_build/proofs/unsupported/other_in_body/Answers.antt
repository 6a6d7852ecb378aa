use Rattle.std.proofs.Common.{rules, ◌≡◌, true}
use Rattle.ifc_schema.specs.BodyRepresentations.{is_body_representation}
use Rattle.model_build.proofs.OtherItems.{body_least}
use Rattle.model_build.proofs.unsupported.other_in_body.Goals as goal

pub returns : goal.returns
returns c =
    let body : is_body_representation c.in-Some.representation ≡ true = search rules in
    body_least c.args.exchange.now c.args.id c.in-Some.representation c.spelled_items.result c.least_other.result c.in-Some.ensures body c.spelled_items.ensures c.least_other.ensures
