use Rattle.std.proofs.Common.{arith}
use Rattle.bim_text.proofs.FewDigits.{bare, pointed}
use Rattle.bim_text.proofs.small.small_whole.Goals as goal

pub returns-then-front-text-clause-writes : goal.returns-then-front-text-clause-writes
returns-then-front-text-clause-writes c =
    let e = c.in_ok-front.ensures in
    bare c.args.text.now c.in_ok-front.front.value e.value (omega (arith, e.end, c.if-front-eq0.false)) (omega (arith, e.end, e.few)) (omega (arith, e.end, c.if-front-text.true))

pub returns-then-text-front-eq46-clause-writes : goal.returns-then-text-front-eq46-clause-writes
returns-then-text-front-eq46-clause-writes c =
    let e = c.in_ok-front.ensures in
    pointed c.args.text.now c.in_ok-front.front.value c.in_ok-front.front.end e.value e.end (omega (arith, c.if-front-eq0.false)) e.few c.if-front-text-2.true c.if-text-front-eq46.true
