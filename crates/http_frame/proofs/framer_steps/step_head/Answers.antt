use Rattle.std.proofs.Common.{refl}
use Rattle.http_frame.specs.declared.stage.Stage.TheVariants.{Head}
use Rattle.http_frame.proofs.Standing.{memory_step}
use Rattle.http_frame.proofs.framer_steps.step_head.Goals as goal

pub returns-in-Err-clause-step : goal.returns-in-Err-clause-step
returns-in-Err-clause-step c = memory_step (Head c.args.watch) c.args.buf.now.items c.args.buf.now.items c.args.at refl
