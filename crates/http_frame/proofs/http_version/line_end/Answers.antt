use Rattle.http_frame.proofs.Versions.{line_step, line_found, line_nowhere}
use Rattle.http_frame.proofs.http_version.line_end.Goals as goal

pub returns-then-b-eq10-clause-some : goal.returns-then-b-eq10-clause-some
returns-then-b-eq10-clause-some c =
    (c.loop-at.auto.at-end, line_found c.args.bytes.now c.loop-at.at c.loop-at-test.true c.if-b-eq10.true c.loop-at.invariant)

pub loop-at-preserved : goal.loop-at-preserved
loop-at-preserved c = line_step c.args.bytes.now c.loop-at.at c.loop-at-test.true c.if-b-eq10.false c.loop-at.invariant

pub returns-clause-none : goal.returns-clause-none
returns-clause-none c = line_nowhere c.args.bytes.now c.loop-at.at c.loop-at-test.false c.loop-at.invariant
