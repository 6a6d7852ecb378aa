use Rattle.std.proofs.Common.{map, ap, ◌∙◌}
use Rattle.std.proofs.lemmas.List.{map_push}
use Rattle.p21_values.proofs.Turns.{ended}
use Rattle.ifc_schema.specs.BodyRepresentations.{has_body}
use Rattle.ifc_schema.proofs.body.bodied_of.Goals as goal

pub loop-instance-preserved : goal.loop-instance-preserved
loop-instance-preserved c = cc (c.in_ok-push.ensures.items, c.has_body.ensures, c.loop-instance.invariant, map_push (has_body c.args.exchange.now) c.loop-instance.yielded c.in-Some.instance)

pub returns : goal.returns
returns c = c.loop-instance.invariant ∙ ap (map (has_body c.args.exchange.now)) (ended c.args.exchange.now c.loop-instance.yielded (cc) _ c.loop-instance.yielded_by _ c.in-None.is c.next.ensures.steps)
