use Rattle.exact_arith.specs.Space.{dot_of}
use Rattle.tri_exact.specs.GridVectors.{at, straight}
use Rattle.clearance.proofs.PartedLists.{first_below, second_below, as_seen}
use Rattle.clearance.proofs.projections.are_parted.Goals as goal

pub returns-then-is_gap : goal.returns-then-is_gap
returns-then-is_gap c =
    let a = c.args in let v = straight a.across in let k = c.in-Some-clear_interval in let m = c.in-Some in
    λ x near. first_below a.ps.now a.qs.now a.around a.reached a.d (at c.vector_at-base.result) v k.first m.second c.requires.inside c.requires.reached_by k.ensures.all m.ensures.all
    (as_seen k.first.high m.second.low c.square-square.result (dot_of v v) a.d k.ensures.small.high_in m.ensures.small.low_in c.square-square.ensures.small c.square-square.ensures.value (c.is_gap.ensures c.if-is_gap.true)) near

pub returns : goal.returns
returns c =
    let a = c.args in let v = straight a.across in let k = c.in-Some-clear_interval in let m = c.in-Some in
    λ x near. second_below a.ps.now a.qs.now a.around a.reached a.d (at c.vector_at-base.result) v k.first m.second c.requires.inside c.requires.reached_by k.ensures.all m.ensures.all
    (as_seen m.second.high k.first.low c.square-square.result (dot_of v v) a.d m.ensures.small.high_in k.ensures.small.low_in c.square-square.ensures.small c.square-square.ensures.value (c.is_gap-2.ensures x)) near
