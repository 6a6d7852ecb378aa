use Rattle.std.proofs.Common.{ℕ, Some, ap, arith}
use Rattle.p21_table.proofs.Waiting.{waits_here, waits_end}
use Rattle.p21_table.proofs.standing.closed_there.Goals as goal

pub loop-at-init : goal.loop-at-init
loop-at-init c = record {
  within = c.requires;
  some = omega arith;
  few = omega arith;
  left = λ ls end h k. record { left = ls; closes = h; waits = waits_here c.args.bytes.now c.args.from ls end k; ended = λ z. absurd (omega (arith, z)) };
}

pub returns-in_default-clause-end : goal.returns-in_default-clause-end
returns-in_default-clause-end c = λ ls end h k.
    let s = c.loop-at.invariant.left ls end h k in
    absurd (c.in_default.ensures.leaves s.left end s.closes s.waits)

pub returns-then-behind-eq0-clause-end : goal.returns-then-behind-eq0-clause-end
returns-then-behind-eq0-clause-end c = λ ls end h k.
    let s = c.loop-at.invariant.left ls end h k in
    let n = c.in-Some.ensures.leaves s.left end s.closes s.waits in
    ap (λ (x : ℕ). Some x) (n.ended c.if-behind-eq0.true)

pub loop-at-preserved : goal.loop-at-preserved
loop-at-preserved c = record {
  within = c.in-Some.ensures.within;
  some = omega (arith, c.if-behind-eq0.false);
  few = (let on = c.in-Some.ensures.on in let few = c.in-Some.ensures.few in let old = c.loop-at.invariant.few in omega (arith, on, few, old));
  left = λ ls end h k. let s = c.loop-at.invariant.left ls end h k in c.in-Some.ensures.leaves s.left end s.closes s.waits;
}

pub returns-clause-end : goal.returns-clause-end
returns-clause-end c = λ ls end h k.
    let s = c.loop-at.invariant.left ls end h k in
    waits_end c.args.bytes.now c.loop-at.at c.loop-at.depth s.left end c.loop-at-test.false c.loop-at.invariant.some s.closes s.waits
