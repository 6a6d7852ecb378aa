use Rattle.std.proofs.Common.{sym, ◌∙◌}
use Rattle.ifc_units.proofs.UnitFacts.{unit_some, unit_none}
use Rattle.ifc_units.proofs.units.scale_of.Goals as goal

pub returns-clause-some : goal.returns-clause-some
returns-clause-some c =
    unit_some c.args.exchange.now c.in-Some.project c.in-Some-assignment_of.assignment c.assigned_scale.result c.in-Some.ensures.some (sym c.assignment_of.ensures ∙ c.in-Some-assignment_of.is) c.assigned_scale.ensures.some

pub returns-clause-none : goal.returns-clause-none
returns-clause-none c =
    unit_none c.args.exchange.now c.in-Some.project c.in-Some-assignment_of.assignment c.assigned_scale.result c.in-Some.ensures.some (sym c.assignment_of.ensures ∙ c.in-Some-assignment_of.is) c.assigned_scale.ensures.none
