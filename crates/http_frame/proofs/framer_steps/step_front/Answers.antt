use Rattle.std.proofs.Common.{refl}
use Rattle.http_frame.specs.declared.field_lines.Spot.TheVariants.{Before}
use Rattle.http_frame.specs.declared.stage.Awaited.TheVariants.{Whole}
use Rattle.http_frame.proofs.Standing.{Owing, front_step, memory_step}
use Rattle.http_frame.proofs.framer_steps.step_front.Goals as goal

pub returns-in-Ok-clause-step : goal.returns-in-Ok-clause-step
returns-in-Ok-clause-step c =
    front_step c.args.facts c.args.filled c.args.at c.args.buf.now.items (record { spot = Before; seen = 0 }) c.in-Ok.body c.request_of.result c.in-Ok.ensures c.request_of.ensures

pub returns-in-Err-clause-step : goal.returns-in-Err-clause-step
returns-in-Err-clause-step c = memory_step (Owing c.args.facts (Whole c.args.filled)) c.args.buf.now.items c.args.buf.now.items c.args.at refl
