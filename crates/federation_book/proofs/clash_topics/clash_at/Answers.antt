use Rattle.std.proofs.Common.{Some, ◌∙◌, ap, ap₂, arith}
use Rattle.std.specs.Option.{option_map}
use Rattle.bim_model.specs.declared.element.Element.{Element}
use Rattle.book_history.specs.Projects.{guids_of}
use Rattle.federation_book.proofs.clash_topics.clash_at.Goals as goal

pub element-requires : goal.element-requires
element-requires c =
    let clash = c.in-Some.ensures.clash in
    let below = clash.below in
    let within = clash.within in
    omega (arith, below, within)

pub element-requires-in-Some : goal.element-requires-in-Some
element-requires-in-Some c = c.in-Some.ensures.clash.within

pub returns-in-Some-clause-is : goal.returns-in-Some-clause-is
returns-in-Some-clause-is c =
    ap₂ (λ (a b : Element). Some (a.guid, b.guid)) c.element.ensures.element c.element-in-Some.ensures.element
    ∙ ap (option_map (guids_of c.args.published.now)) c.in-Some.ensures.pair

pub returns-in-Some-clause-good : goal.returns-in-Some-clause-good
returns-in-Some-clause-good c = record { first = c.element.ensures.modelled.guid; second = c.element-in-Some.ensures.modelled.guid }
