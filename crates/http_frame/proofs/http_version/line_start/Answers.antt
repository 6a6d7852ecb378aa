use Rattle.std.proofs.Common.{sym, ◌∙◌, ap, drop}
use Rattle.http_frame.specs.inner.HeadLines.{begins_blank}
use Rattle.http_frame.proofs.Versions.{blank_step, at_line, at_end}
use Rattle.http_frame.proofs.http_version.line_start.Goals as goal

pub returns-then-not-begins_blank-clause-line : goal.returns-then-not-begins_blank-clause-line
returns-then-not-begins_blank-clause-line c =
    c.loop-at.invariant ∙ at_line (drop c.loop-at.at c.args.bytes.now) (ap begins_blank (sym c.tail.ensures) ∙ sym c.begins_blank.ensures ∙ c.if-not-begins_blank.true)

pub loop-at-preserved : goal.loop-at-preserved
loop-at-preserved c =
    c.loop-at.invariant ∙ blank_step c.args.bytes.now c.loop-at.at c.loop-at-test.true (ap begins_blank (sym c.tail.ensures) ∙ sym c.begins_blank.ensures ∙ c.if-not-begins_blank.false)

pub returns-clause-line : goal.returns-clause-line
returns-clause-line c = at_end c.args.bytes.now c.loop-at.at c.loop-at-test.false c.loop-at.invariant
