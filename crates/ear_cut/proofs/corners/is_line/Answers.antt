use Rattle.std.proofs.Common.{◌∙◌, ap}
use Rattle.exact_arith.specs.Space.{Vector, is_nowhere, cross_of}
use Rattle.bim_model.specs.Points.{step}
use Rattle.ear_cut.specs.Registers.{as_way}
use Rattle.ear_cut.proofs.corners.is_line.Goals as goal

pub returns : goal.returns
returns c =
    c.is_zero.ensures ∙ ap is_nowhere (c.cross.ensures.value
    ∙ (ap (λ (v : Vector). cross_of v (as_way c.step-2.result)) c.step.ensures ∙ ap (λ (v : Vector). cross_of (step c.args.a c.args.b) v) c.step-2.ensures))
