use Rattle.std.proofs.Common.{All, subst}
use Rattle.std.proofs.lemmas.Bool.{OnTrue_at}
use Rattle.std.proofs.lemmas.List.Elements.{All-push}
use Rattle.p21_values.proofs.Turns.{ended}
use Rattle.model_walk.specs.Clean.{LeadsToItem}
use Rattle.model_walk.proofs.used_checks.are_read.Goals as goal

pub loop-value-preserved : goal.loop-value-preserved
loop-value-preserved c =
    All-push (LeadsToItem c.args.exchange.now c.args.mapped) c.loop-value.yielded c.in-Some.value c.loop-value.invariant (OnTrue_at c.if-not-is_read.false c.is_read.ensures)

pub returns : goal.returns
returns c =
    subst (All (LeadsToItem c.args.exchange.now c.args.mapped)) (ended c.args.values.now c.loop-value.yielded (cc) _ c.loop-value.yielded_by _ c.in-None.is c.next.ensures.steps) c.loop-value.invariant
