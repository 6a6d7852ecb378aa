use Rattle.std.proofs.Common.{◌≡◌, List, Some, below_more, ◌∙◌, sym}
use Rattle.std.proofs.lemmas.List.{get_or_default}
use Rattle.ifc_instances.specs.declared.entity.Entity.TheVariants.{Subject}
use Rattle.ifc_instances.specs.EntityLookup.{entity_at}
use Rattle.ifc_schema.specs.declared.form.Attribute.{Attribute}
use Rattle.ifc_schema.specs.Flaws.{AttributeFlaw, FirstFlaw}
use Rattle.ifc_schema.proofs.ElementRows.{same_row}
use Rattle.ifc_schema.proofs.Firsts.{no_flaw}
use Rattle.ifc_schema.proofs.flaw.instance_flaw.Goals as goal

pub loop-attribute-preserved : goal.loop-attribute-preserved
loop-attribute-preserved c = below_more _ _ c.loop-attribute.invariant (λ d.
    no_flaw (AttributeFlaw c.args.exchange.now c.args.mapped c.args.instance.now) _ _ c.attribute_flaw-flaw.result
    (get_or_default c.row_at-attribute-items.result.now c.loop-attribute.attribute-index _ d c.loop-attribute-test.true)
    (sym c.is_some.ensures ∙ c.if-is_some.false) c.attribute_flaw-flaw.ensures)

pub returns-in-Some-Subject : goal.returns-in-Some-Subject
returns-in-Some-Subject c =
    let i = c.args.instance.now in
    let h : entity_at i ≡ Some Subject = cc (c.at.ensures, c.in-Some-Subject.is, c.in-Some-Subject.field-0-is) in
    same_row (λ (row : List Attribute). FirstFlaw (AttributeFlaw c.args.exchange.now c.args.mapped i) row c.element_flaw.result) (entity_at i) h c.element_flaw.ensures
