use Rattle.std.proofs.Common.{◌∙◌, ◌+ℤ◌, ap, arith, inl, inr}
use Rattle.std.specs.Ordering.{ordering_reverse}
use Rattle.std.proofs.lemmas.Int.{ints}
use Rattle.bim_text.proofs.Powers.{order_higher, order_lower, order_zero}
use Rattle.bim_text.proofs.decimal.Decimal.compare_size.Goals as goal
use Rattle.bim_text.proofs.decimal.Decimal.compare_size.Goals.{then-self-eq0-via-then-self-eq0, then-self-eq0-via-else-self-eq0+then-other-eq0}

pub returns-then-self-eq0 : goal.returns-then-self-eq0
returns-then-self-eq0 c =
    let s = c.args.self.now in
    let o = c.args.other.now in
    c.cmp.ensures ∙ order_zero s.negative o.negative s.digits o.digits (s.exp +ℤ c.args.shift) o.exp (elim c.then-self-eq0.branch [
      | then-self-eq0-via-then-self-eq0 w ↦ inl w.if-self-eq0.true
      | then-self-eq0-via-else-self-eq0+then-other-eq0 w ↦ inr w.if-other-eq0.true
    ])

pub returns-then-difference-ge0 : goal.returns-then-difference-ge0
returns-then-difference-ge0 c =
    let s = c.args.self.now in
    let o = c.args.other.now in
    c.order_raised.ensures ∙ order_higher s.negative o.negative s.digits o.digits c.unsigned_abs-zeros.result (s.exp +ℤ c.args.shift) o.exp (omega (arith, ints, c.unsigned_abs-zeros.ensures))

pub returns-else-difference-ge0 : goal.returns-else-difference-ge0
returns-else-difference-ge0 c =
    let s = c.args.self.now in
    let o = c.args.other.now in
    c.reverse.ensures ∙ ap ordering_reverse c.order_raised-else-difference-ge0.ensures ∙ order_lower s.negative o.negative s.digits o.digits c.unsigned_abs-zeros.result (s.exp +ℤ c.args.shift) o.exp (omega (arith, ints, c.unsigned_abs-zeros.ensures))
