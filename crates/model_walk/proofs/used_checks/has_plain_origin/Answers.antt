use Rattle.std.proofs.Common.{◌≡◌, Bool, true, false, sym, ◌∙◌, subst}
use Rattle.std.specs.Bool.{OnTrue}
use Rattle.placement.specs.Placed.{AxisFrame}
use Rattle.model_walk.specs.Clean.{HasPlainOrigin, identity}
use Rattle.model_walk.proofs.used_checks.has_plain_origin.Goals as goal

pub returns-in-Some-axis_frame : goal.returns-in-Some-axis_frame
returns-in-Some-axis_frame c = by_test c.is_identity.result c.is_identity.ensures
  where
    by_test : (b : Bool) → OnTrue b (c.in-Some-axis_frame.frame ≡ identity) → OnTrue b (HasPlainOrigin c.args.exchange.now c.args.scale c.args.mode c.args.map.now)
    by_test true same = (c.in-Some.origin, sym c.reference_at.ensures ∙ c.in-Some.is, subst (AxisFrame c.args.exchange.now c.args.scale c.args.mode c.in-Some.origin) same c.in-Some-axis_frame.ensures.frame)
    by_test false same = tt
