use Rattle.std.proofs.Common.{subst}
use Rattle.http_frame.specs.declared.stage.Awaited.{Awaited}
use Rattle.http_frame.specs.declared.stage.Awaited.TheVariants.{Sized, Chunked, Whole}
use Rattle.http_frame.specs.FramerStages.{IsFilled}
use Rattle.http_frame.proofs.Standing.{continue_step, body_steps}
use Rattle.http_frame.proofs.framer_steps.step_body.Goals as goal

pub returns-then-owes-clause-step : goal.returns-then-owes-clause-step
returns-then-owes-clause-step c = continue_step c.args.pending c.args.buf.now.items c.args.at c.if-owes.true

pub returns-in-Sized-clause-step : goal.returns-in-Sized-clause-step
returns-in-Sized-clause-step c =
    body_steps c.args.pending (Sized c.in-Sized.count) c.args.buf.now.items c.step_sized.new.buf.items c.args.at c.step_sized.result c.if-owes.false c.in-Sized.is c.step_sized.ensures.step

pub returns-in-Chunked-clause-step : goal.returns-in-Chunked-clause-step
returns-in-Chunked-clause-step c =
    body_steps c.args.pending (Chunked c.in-Chunked.chunks) c.args.buf.now.items c.step_chunked.new.buf.items c.args.at c.step_chunked.result c.if-owes.false c.in-Chunked.is c.step_chunked.ensures.step

pub returns-in-Whole-clause-step : goal.returns-in-Whole-clause-step
returns-in-Whole-clause-step c =
    body_steps c.args.pending (Whole c.in-Whole.filled) c.args.buf.now.items c.step_whole.new.buf.items c.args.at c.step_whole.result c.if-owes.false c.in-Whole.is c.step_whole.ensures.step

pub step_chunked-requires-clause-filled : goal.step_chunked-requires-clause-filled
step_chunked-requires-clause-filled c = subst (λ (b : Awaited). IsFilled b c.args.at) c.in-Chunked.is c.requires.1

pub step_whole-requires-clause-filled : goal.step_whole-requires-clause-filled
step_whole-requires-clause-filled c = subst (λ (b : Awaited). IsFilled b c.args.at) c.in-Whole.is c.requires.1
