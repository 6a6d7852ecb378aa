use Rattle.std.proofs.Common.{◌≡◌, length, ap, arith}
use Rattle.http_frame.specs.declared.field_lines.Spot.TheVariants.{Before}
use Rattle.http_frame.specs.declared.stage.Awaited.TheVariants.{Whole}
use Rattle.http_frame.proofs.Standing.{Owing, whole_step, memory_step}
use Rattle.http_frame.proofs.Keeping.{start_safe}
use Rattle.http_frame.proofs.framer_steps.step_whole.Goals as goal

pub returns-in-Ok-clause-step : goal.returns-in-Ok-clause-step
returns-in-Ok-clause-step c =
    whole_step c.args.facts c.args.filled c.args.at c.args.buf.now.items c.part.new.buf.items (record { spot = Before; seen = 0 }) c.in-Ok.body c.request_of.result c.in-Ok.ensures.ok c.in-Ok.ensures.kept c.request_of.ensures

pub returns-in-Err-clause-step : goal.returns-in-Err-clause-step
returns-in-Err-clause-step c =
    memory_step (Owing c.args.facts (Whole c.args.filled)) c.args.buf.now.items c.part.new.buf.items c.args.at c.in-Err.ensures.err

pub returns-in-Ok-clause-safe : goal.returns-in-Ok-clause-safe
returns-in-Ok-clause-safe c = start_safe c.part.new.buf.items 0 (omega arith)

pub returns-in-Err-clause-safe : goal.returns-in-Err-clause-safe
returns-in-Err-clause-safe c =
    let size : length c.part.new.buf.items ≡ length c.args.buf.now.items = ap length c.in-Err.ensures.err in
    (omega arith, c.requires.filled)
