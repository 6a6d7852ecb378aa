use Rattle.check_workers.proofs.WorkersMade.{worker_over}
use Rattle.check_workers.proofs.workers.run_worker.Goals as goal

pub returns-clause-over : goal.returns-clause-over
returns-clause-over g c =
    worker_over c.args.turn.now c.args.worker.now.pass c.work_out-worker.new.pass c.requires.new c.work_out-worker.ensures.own c.work_out-worker.ensures.teaches
