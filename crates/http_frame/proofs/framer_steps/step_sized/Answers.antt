use Rattle.std.proofs.Common.{◌≤◌, ◌<◌, ◌-◌, length, arith}
use Rattle.http_frame.specs.declared.stage.Awaited.TheVariants.{Sized, Whole}
use Rattle.http_frame.proofs.Standing.{Owing, steps_after, sized_more, sized_is_whole}
use Rattle.http_frame.proofs.framer_steps.step_sized.Goals as goal

pub returns-then-rest-count-clause-step : goal.returns-then-rest-count-clause-step
returns-then-rest-count-clause-step c =
    let lacks : length c.args.buf.now.items - c.args.at < c.args.count = omega (arith, c.args.buf.now.ok.0) in
    sized_more c.args.facts c.args.count c.args.at c.args.buf.now.items c.settle.new.buf.items c.settle.ensures lacks

pub returns-then-at-eq0-clause-step : goal.returns-then-at-eq0-clause-step
returns-then-at-eq0-clause-step c =
    let fits : c.args.count ≤ length c.args.buf.now.items = omega (arith, c.args.buf.now.ok.0) in
    steps_after (Owing c.args.facts (Sized c.args.count)) (Owing c.args.facts (Whole c.args.count)) c.args.buf.now.items c.args.buf.now.items c.step_whole.new.buf.items c.args.at c.args.count
    c.step_whole.result (sized_is_whole c.args.facts c.args.count c.args.at c.args.buf.now.items c.if-at-eq0.true fits) c.step_whole.ensures.step
