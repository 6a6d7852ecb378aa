use Rattle.book_passes.specs.Lessons.{caller_of}
use Rattle.check_workers.proofs.Turns.{teaches_none, teaches_trans, nothing_left}
use Rattle.check_workers.proofs.work.work_loop.Goals as goal

pub loop-init : goal.loop-init
loop-init g c = record {
  can = tt;
  finite = tt;
  own = c.requires.own;
  teaches = teaches_none (caller_of c.args.pass.now);
}

pub returns-then-closed-clause-teaches : goal.returns-then-closed-clause-teaches
returns-then-closed-clause-teaches g c =
    teaches_trans (caller_of c.args.pass.now) (caller_of c.loop.pass) (caller_of c.work_one.new.pass) c.loop.invariant.teaches c.work_one.ensures.teaches

pub returns-then-closed-clause-done : goal.returns-then-closed-clause-done
returns-then-closed-clause-done g c =
    nothing_left c.args.turn.now.settings c.loop.seat c.loop.pass c.work_one.new.pass c.in-Ok-Nothing.field-0 c.in-Ok-Nothing.ensures.worked c.in-Ok-Nothing.field-0-is

pub returns-then-closed-2-clause-teaches : goal.returns-then-closed-2-clause-teaches
returns-then-closed-2-clause-teaches g c =
    teaches_trans (caller_of c.args.pass.now) (caller_of c.loop.pass) (caller_of c.work_one.new.pass) c.loop.invariant.teaches c.work_one.ensures.teaches

pub loop-preserved-in-Ok-Nothing : goal.loop-preserved-in-Ok-Nothing
loop-preserved-in-Ok-Nothing g c = record {
  can = tt;
  finite = tt;
  own = c.work_one.ensures.own;
  teaches =
      teaches_trans (caller_of c.args.pass.now) (caller_of c.loop.pass) (caller_of c.work_one.new.pass) c.loop.invariant.teaches c.work_one.ensures.teaches;
}

pub loop-preserved-in-Ok : goal.loop-preserved-in-Ok
loop-preserved-in-Ok g c = record {
  can = tt;
  finite = tt;
  own = c.work_one.ensures.own;
  teaches =
      teaches_trans (caller_of c.args.pass.now) (caller_of c.loop.pass) (caller_of c.work_one.new.pass) c.loop.invariant.teaches c.work_one.ensures.teaches;
}

pub loop-preserved : goal.loop-preserved
loop-preserved g c = record {
  can = tt;
  finite = tt;
  own = c.work_one.ensures.own;
  teaches =
      teaches_trans (caller_of c.args.pass.now) (caller_of c.loop.pass) (caller_of c.work_one.new.pass) c.loop.invariant.teaches c.work_one.ensures.teaches;
}
