use Rattle.http_frame.proofs.Digits.{digit_more, past_most}
use Rattle.http_frame.proofs.digit_runs.number_up_to.Goals as goal

pub returns-then-value-most : goal.returns-then-value-most
returns-then-value-most c =
    past_most c.args.text.now c.loop-b.b-index _ c.args.most (digit_more c.args.text.now c.loop-b.b-index c.loop-b.value c.requires.digits c.loop-b-test.true c.loop-b.invariant.is) c.if-value-most.true

pub loop-b-preserved : goal.loop-b-preserved
loop-b-preserved c = record {
  is = digit_more c.args.text.now c.loop-b.b-index c.loop-b.value c.requires.digits c.loop-b-test.true c.loop-b.invariant.is;
  small = c.if-value-most.false;
}
