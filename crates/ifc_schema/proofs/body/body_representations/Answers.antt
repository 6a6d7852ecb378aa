use Rattle.std.proofs.Common.{map, ap, ◌∙◌}
use Rattle.std.proofs.lemmas.List.{map_push}
use Rattle.p21_values.proofs.Turns.{ended}
use Rattle.ifc_schema.specs.BodyRepresentations.{is_body_representation}
use Rattle.ifc_schema.proofs.body.body_representations.Goals as goal

pub loop-instance-preserved : goal.loop-instance-preserved
loop-instance-preserved c = cc (c.in_ok-push.ensures.items, c.is_body_representation.ensures, c.loop-instance.invariant, map_push is_body_representation c.loop-instance.yielded c.in-Some.instance)

pub returns : goal.returns
returns c = c.loop-instance.invariant ∙ ap (map is_body_representation) (ended c.args.exchange.now c.loop-instance.yielded (cc) _ c.loop-instance.yielded_by _ c.in-None.is c.next.ensures.steps)
