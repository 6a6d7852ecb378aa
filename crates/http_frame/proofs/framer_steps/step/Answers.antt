use Rattle.http_frame.proofs.Standing.{failed_step}
use Rattle.http_frame.proofs.framer_steps.step.Goals as goal

pub returns-in-Failed-clause-step : goal.returns-in-Failed-clause-step
returns-in-Failed-clause-step c = failed_step c.args.stage c.in-Failed.fault c.args.buf.now.items c.args.at c.in-Failed.is
