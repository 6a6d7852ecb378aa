use Rattle.std.proofs.Common.{arith, refl, ◌∙◌}
use Rattle.std.proofs.lemmas.Grind.{common_steps}
use Rattle.bim_io.proofs.Calls.{takes_none}
use Rattle.bim_io.proofs.Written.{takes_more, wrote_front}
use Rattle.bim_io.proofs.whole.write_whole.Goals as goal

pub loop-at-init : goal.loop-at-init
loop-at-init g c = record {
  within = omega arith;
  took = takes_none _;
  quiet = refl;
}

pub loop-at-preserved : goal.loop-at-preserved
loop-at-preserved g c =
    let bound = rw c.tail.ensures at c.in-Ok.ensures.bound in
    let held = rw c.tail.ensures at c.in-Ok.ensures.held in
    record {
      within = grind (arith, common_steps, bound);
      took = takes_more _ _ _ c.args.bytes.now c.loop-at.at c.in-Ok.count c.loop-at.invariant.took held c.in-Ok.ensures.cause.done;
      quiet = c.in-Ok.ensures.cause.done ∙ c.loop-at.invariant.quiet;
    }

pub returns-in-Err : goal.returns-in-Err
returns-in-Err g c =
    wrote_front _ _ _ c.args.bytes.now c.loop-at.at (omega arith) c.loop-at.invariant.took c.loop-at.invariant.quiet c.in-Err.ensures.held
    c.in-Err.ensures.cause.later c.in-Err.ensures.cause.failed
