use Rattle.std.proofs.Common.{◌≡◌, ℕ, Bool, true, Option, Some, None, is_some, subst}
use Rattle.std.specs.Option.{IfSome}
use Rattle.std.specs.Bool.{OnTrue}
use Rattle.ifc_instances.specs.declared.entity.Entity.TheVariants.{Operator}
use Rattle.ifc_instances.specs.EntityLookup.{is_a}
use Rattle.placement.specs.declared.axes.Axes.{Axes}
use Rattle.placement.specs.Operators.{HasOperatorAxes}
use Rattle.model_walk.proofs.used_checks.shows_operator_axes.Goals as goal

pub returns-else-not-includes : goal.returns-else-not-includes
returns-else-not-includes c = by_option c.operator_axes.result c.is_some.result c.is_some.ensures (subst (λ (n : ℕ). IfSome c.operator_axes.result (HasOperatorAxes c.args.exchange.now n)) c.id.ensures c.operator_axes.ensures.axes)
  where
    by_option : (o : Option Axes) (b : Bool) → b ≡ is_some o → IfSome o (HasOperatorAxes c.args.exchange.now c.args.instance.now.id)
        → OnTrue b (is_a Operator c.args.instance.now ≡ true → (axes : Axes) × HasOperatorAxes c.args.exchange.now c.args.instance.now.id axes)
    by_option None b e h = rw e tt
    by_option (Some axes) b e h = rw e (λ k. (axes, h))
