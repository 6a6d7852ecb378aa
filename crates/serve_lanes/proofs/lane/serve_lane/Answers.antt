use Rattle.std.proofs.Common.{refl, ◌∙◌, ◌≡◌, ◌-◌, arith, rules}
use Rattle.serve_lanes.proofs.Chains.{lane_start, lane_trans}
use Rattle.serve_lanes.proofs.lane.serve_lane.Goals as goal

pub loop-init : goal.loop-init
loop-init g c = record {
  can = tt;
  finite = tt;
  own = c.requires.own;
  number = refl;
  clock = refl;
  sound = refl;
  left = λ some. (some, refl);
  served = lane_start _ _ _ _ _;
}

pub returns-in-Stop-clause-served : goal.returns-in-Stop-clause-served
returns-in-Stop-clause-served g c = lane_trans _ _ _ _ _ _ _ _ _ _ _ _ _ c.loop.invariant.served (rw (c.loop.invariant.clock, c.loop.invariant.number) at c.serve_next.ensures.served)

pub returns-then-left-eq0-clause-served : goal.returns-then-left-eq0-clause-served
returns-then-left-eq0-clause-served g c = lane_trans _ _ _ _ _ _ _ _ _ _ _ _ _ c.loop.invariant.served (rw (c.loop.invariant.clock, c.loop.invariant.number) at c.serve_next.ensures.served)

pub loop-preserved-else-left-eq0 : goal.loop-preserved-else-left-eq0
loop-preserved-else-left-eq0 g c = record {
  left = λ some.
      let before = c.loop.invariant.left some in
      let more = c.serve_next.ensures.more c.in-More.is in
      let fewer : c.saturating_sub-left.result ≡ c.loop.left - 1 = search rules in
      let other = c.if-left-eq0.false in
      (omega arith, omega arith);
  can = tt;
  finite = tt;
  own = c.serve_next.ensures.own;
  number = c.serve_next.ensures.number ∙ c.loop.invariant.number;
  clock = c.serve_next.ensures.clock ∙ c.loop.invariant.clock;
  sound = c.serve_next.ensures.sound (λ is. cc) ∙ c.loop.invariant.sound;
  served = lane_trans _ _ _ _ _ _ _ _ _ _ _ _ _ c.loop.invariant.served (rw (c.loop.invariant.clock, c.loop.invariant.number) at c.serve_next.ensures.served);
}

pub loop-preserved : goal.loop-preserved
loop-preserved g c = record {
  left = λ some. absurd (omega arith);
  can = tt;
  finite = tt;
  own = c.serve_next.ensures.own;
  number = c.serve_next.ensures.number ∙ c.loop.invariant.number;
  clock = c.serve_next.ensures.clock ∙ c.loop.invariant.clock;
  sound = c.serve_next.ensures.sound (λ is. cc) ∙ c.loop.invariant.sound;
  served = lane_trans _ _ _ _ _ _ _ _ _ _ _ _ _ c.loop.invariant.served (rw (c.loop.invariant.clock, c.loop.invariant.number) at c.serve_next.ensures.served);
}
