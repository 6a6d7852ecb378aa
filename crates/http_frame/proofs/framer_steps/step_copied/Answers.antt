use Rattle.std.proofs.Common.{refl}
use Rattle.http_frame.specs.declared.field_lines.Spot.TheVariants.{Before}
use Rattle.http_frame.specs.declared.stage.Awaited.TheVariants.{Sized}
use Rattle.http_frame.proofs.Standing.{Owing, copied_step, memory_step}
use Rattle.http_frame.proofs.framer_steps.step_copied.Goals as goal

pub returns-in-Ok-clause-step : goal.returns-in-Ok-clause-step
returns-in-Ok-clause-step c =
    copied_step c.args.facts c.args.count c.args.at c.args.buf.now.items (record { spot = Before; seen = 0 }) c.in-Ok.body c.request_of.result c.in-Ok.ensures c.requires c.request_of.ensures

pub returns-in-Err-clause-step : goal.returns-in-Err-clause-step
returns-in-Err-clause-step c = memory_step (Owing c.args.facts (Sized c.args.count)) c.args.buf.now.items c.args.buf.now.items c.args.at refl
