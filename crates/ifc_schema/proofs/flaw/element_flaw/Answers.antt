use Rattle.std.proofs.Common.{None, ◌∙◌, refl, sym}
use Rattle.ifc_schema.specs.Flaws.{AttributeFlaw}
use Rattle.ifc_schema.proofs.ElementRows.{first, second, third, fourth, last}
use Rattle.ifc_schema.proofs.ShapedBodies.{bodied_shaped}
use Rattle.ifc_schema.proofs.flaw.element_flaw.Goals as goal
use Rattle.ifc_schema.proofs.flaw.element_flaw.Goals.{then-not-bodied+else-is_some-4, else-not-bodied}

pub returns-then-is_some : goal.returns-then-is_some
returns-then-is_some c =
    first (AttributeFlaw c.args.exchange.now c.args.mapped c.args.instance.now) c.attribute_flaw-identifier.result (sym c.is_some.ensures ∙ c.if-is_some.true) c.attribute_flaw-identifier.ensures

pub returns-then-is_some-2 : goal.returns-then-is_some-2
returns-then-is_some-2 c =
    second (AttributeFlaw c.args.exchange.now c.args.mapped c.args.instance.now) c.attribute_flaw-identifier.result c.attribute_flaw-name.result
    (sym c.is_some.ensures ∙ c.if-is_some.false) c.attribute_flaw-identifier.ensures (sym c.is_some-2.ensures ∙ c.if-is_some-2.true) c.attribute_flaw-name.ensures

pub returns-then-is_some-3 : goal.returns-then-is_some-3
returns-then-is_some-3 c =
    third (AttributeFlaw c.args.exchange.now c.args.mapped c.args.instance.now) c.attribute_flaw-identifier.result c.attribute_flaw-name.result c.attribute_flaw-placed.result
    (sym c.is_some.ensures ∙ c.if-is_some.false) c.attribute_flaw-identifier.ensures (sym c.is_some-2.ensures ∙ c.if-is_some-2.false) c.attribute_flaw-name.ensures
    (sym c.is_some-3.ensures ∙ c.if-is_some-3.true) c.attribute_flaw-placed.ensures

pub returns-then-is_some-4 : goal.returns-then-is_some-4
returns-then-is_some-4 c =
    fourth (AttributeFlaw c.args.exchange.now c.args.mapped c.args.instance.now) c.attribute_flaw-identifier.result c.attribute_flaw-name.result c.attribute_flaw-placed.result c.attribute_flaw-shaped.result
    (sym c.is_some.ensures ∙ c.if-is_some.false) c.attribute_flaw-identifier.ensures (sym c.is_some-2.ensures ∙ c.if-is_some-2.false) c.attribute_flaw-name.ensures
    (sym c.is_some-3.ensures ∙ c.if-is_some-3.false) c.attribute_flaw-placed.ensures (sym c.is_some-then-not-bodied.ensures ∙ c.if-is_some-4.true) c.attribute_flaw-shaped.ensures

pub returns : goal.returns
returns c = elim c.if-not-bodied.branch [
  | then-not-bodied+else-is_some-4 w ↦
      last (AttributeFlaw c.args.exchange.now c.args.mapped c.args.instance.now) c.attribute_flaw-identifier.result c.attribute_flaw-name.result c.attribute_flaw-placed.result w.attribute_flaw-shaped.result
      c.attribute_flaw.result (sym c.is_some.ensures ∙ c.if-is_some.false) c.attribute_flaw-identifier.ensures (sym c.is_some-2.ensures ∙ c.if-is_some-2.false) c.attribute_flaw-name.ensures
      (sym c.is_some-3.ensures ∙ c.if-is_some-3.false) c.attribute_flaw-placed.ensures (sym w.is_some-then-not-bodied.ensures ∙ w.if-is_some-4.false) w.attribute_flaw-shaped.ensures
      c.attribute_flaw.ensures
  | else-not-bodied w ↦
      last (AttributeFlaw c.args.exchange.now c.args.mapped c.args.instance.now) c.attribute_flaw-identifier.result c.attribute_flaw-name.result c.attribute_flaw-placed.result None
      c.attribute_flaw.result (sym c.is_some.ensures ∙ c.if-is_some.false) c.attribute_flaw-identifier.ensures (sym c.is_some-2.ensures ∙ c.if-is_some-2.false) c.attribute_flaw-name.ensures
      (sym c.is_some-3.ensures ∙ c.if-is_some-3.false) c.attribute_flaw-placed.ensures refl
      (bodied_shaped c.args.exchange.now c.args.mapped c.args.instance.now (sym c.requires.bodied ∙ w.if-not-bodied.false)) c.attribute_flaw.ensures
]
