use Rattle.std.proofs.Common.{◌≡◌, ◌<◌, ℕ, Option, sym, subst, arith}
use Rattle.server_commands.specs.inner.BucketWork.{WorksAll}
use Rattle.server_commands.proofs.Worked.{all_worked}
use Rattle.server_commands.proofs.one_thread.OneThread.work.Goals as goal

pub returns-in_ok-work_up_to-in-None-clause-ok : goal.returns-in_ok-work_up_to-in-None-clause-ok
returns-in_ok-work_up_to-in-None-clause-ok c =
    let up = c.in_ok-work_up_to-in-None.ensures.ok in
    let fits : c.work_up_to-in-None.new.self.turns < 18446744073709551616 = omega (arith, c.turns.ensures, c.turns.type_inv) in
    subst (λ (b : Option ℕ). WorksAll b c.args.self.now c.work_up_to-in-None.new.self) (sym c.in-None.is) (record { count = up.count; worked = up.worked; enough = all_worked _ _ up fits })
