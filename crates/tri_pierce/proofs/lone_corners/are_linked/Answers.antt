use Rattle.std.proofs.Common.{pos}
use Rattle.exact_arith.proofs.Ranges.{above, at_most, renamed, zero_kept}
use Rattle.tri_exact.specs.Foot.{orient_of}
use Rattle.tri_exact.specs.GridVectors.{at}
use Rattle.tri_pierce.specs.inner.LoneCorners.{face_of}
use Rattle.tri_pierce.proofs.Registers.{kept, clash, above_test}
use Rattle.tri_pierce.proofs.CornerOrders.{linked_pierces, pierces_linked}
use Rattle.tri_pierce.proofs.lone_corners.are_linked.Goals as goal

pub returns-then-second-ge0 : goal.returns-then-second-ge0
returns-then-second-ge0 c =
    let a = c.args in let r = c.requires in
    let k = renamed (kept c.orient-second.result c.orient-second.ensures.small) c.orient-second.ensures.value in (
      λ x. absurd (cc x),
      λ p. absurd (clash (orient_of (at a.t.a) (at a.t.b) (at a.s.a) (at a.s.b)) (pos 0) (pierces_linked (face_of a.t) (face_of a.s) r.over_t r.over_s p).second (at_most zero_kept k c.if-second-ge0.true)),
    )

pub returns : goal.returns
returns c =
    let a = c.args in let r = c.requires in
    let k = renamed (kept c.orient-second.result c.orient-second.ensures.small) c.orient-second.ensures.value in
    let q = above_test (renamed (kept c.orient-third.result c.orient-third.ensures.small) c.orient-third.ensures.value) in (
      λ x. linked_pierces (face_of a.t) (face_of a.s) (record { over_t = r.over_t; over_s = r.over_s; second = above zero_kept k c.if-second-ge0.false; third = q.0 x }),
      λ p. q.1 (pierces_linked (face_of a.t) (face_of a.s) r.over_t r.over_s p).third,
    )
