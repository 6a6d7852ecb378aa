use Rattle.std.proofs.Common.{Ok, Err}
use Rattle.batch_commands.proofs.Answered.{error_read, error_write, found_read, found_write}
use Rattle.batch_commands.proofs.check.check_said.Goals as goal

pub returns-in-Ok-clause-does : goal.returns-in-Ok-clause-does
returns-in-Ok-clause-does g c = record { found = Ok c.in-Ok.found; finds = c.in-Ok.ensures; answers = c.answer_found.ensures }

pub returns-in-Ok-clause-read : goal.returns-in-Ok-clause-read
returns-in-Ok-clause-read g c = found_read _ _ _ _ c.args.said.now c.in-Ok.found c.answer_found.result c.in-Ok.ensures c.answer_found.ensures

pub returns-in-Ok-clause-write : goal.returns-in-Ok-clause-write
returns-in-Ok-clause-write g c = found_write _ _ c.in-Ok.found c.answer_found.result c.answer_found.ensures

pub returns-in-Err-clause-does : goal.returns-in-Err-clause-does
returns-in-Err-clause-does g c = record { found = Err c.in-Err.error; finds = c.in-Err.ensures; answers = c.answer_error.ensures }

pub returns-in-Err-clause-read : goal.returns-in-Err-clause-read
returns-in-Err-clause-read g c = error_read _ _ _ _ _ c.in-Err.error c.answer_error.result c.in-Err.ensures c.answer_error.ensures

pub returns-in-Err-clause-write : goal.returns-in-Err-clause-write
returns-in-Err-clause-write g c = error_write _ _ c.in-Err.error c.answer_error.result c.answer_error.ensures
