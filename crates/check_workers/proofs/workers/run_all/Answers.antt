use Rattle.std.proofs.Common.{ℕ, slice_index_or}
use Rattle.check_workers.specs.declared.workers.Worker.{Worker}
use Rattle.check_workers.proofs.WorkersMade.{map_same, same_number}
use Rattle.check_workers.proofs.workers.run_all.Goals as goal

pub returns-clause-numbers : goal.returns-clause-numbers
returns-clause-numbers g c =
    let number : Worker → ℕ = λ w. w.pass.number in
    map_same number c.args.workers.now c.for_each_mut.new.s c.for_each_mut.auto.s
    (λ k d lt.
    let h = (c.for_each_mut.ensures k d lt).1 in
    same_number (slice_index_or c.args.workers.now k d) (slice_index_or c.for_each_mut.new.s k d) h.argument.now h.after_call.now h.argument_is h.left h.call.1)
