use Rattle.std.proofs.Common.{ℕ, ◌≡◌, ◌+◌, ◌*◌, ◌/◌, ◌<◌, ◌≤◌, length, arith}
use Rattle.bim_model.specs.declared.geometry.Triangle.{Triangle}
use Rattle.clearance.specs.Near.{NearAny}
use Rattle.tri_exact.proofs.Choice.{not_both}
use Rattle.clearance.proofs.Lists.{some_any, by_lt}
use Rattle.clearance.proofs.Sixteenths.{at_place}
use Rattle.clearance.proofs.triangle_runs.row_near.Goals as goal

pub returns-then-at-ps-clause-far : goal.returns-then-at-ps-clause-far
returns-then-at-ps-clause-far c =
    λ no j p lt n.
    let h : j < c.loop-j.j = omega (arith, c.if-at-ps.true, lt) in
    c.loop-j.invariant j p h lt n

pub returns-then-runs_near-clause-near : goal.returns-then-runs_near-clause-near
returns-then-runs_near-clause-near c =
    let lt : 16 * c.loop-j.j + c.args.start < length c.args.ps.now = omega (arith, c.if-at-ps.false) in
    λ yes. some_any (λ (p : Triangle). NearAny p c.args.qs.now c.args.d) c.args.ps.now (16 * c.loop-j.j + c.args.start) _ lt (c.runs_near.ensures.0 c.if-runs_near.true)

same : (i j s : ℕ) → i < j + 1 → j ≤ i → 16 * i + s ≡ 16 * j + s
same i j s f g = omega (arith, f, g)

pub loop-j-preserved : goal.loop-j-preserved
loop-j-preserved c =
    λ i p lt h n. by_lt i c.loop-j.j
    (λ k. c.loop-j.invariant i p k h n)
    (λ k. not_both c.if-runs_near.false (c.runs_near.ensures.1 (at_place c.args.ps.now c.args.qs.now c.args.d (16 * i + c.args.start) (16 * c.loop-j.j + c.args.start) p _ (same i c.loop-j.j c.args.start lt k) h n)))

past : (l k j s : ℕ) → l / 16 + 1 ≤ k → 16 * j + s < l → j < k
past l k j s f g = omega (arith, f, g)

pub returns-clause-far : goal.returns-clause-far
returns-clause-far c =
    λ no j p lt n.
    let f : length c.args.ps.now / 16 + 1 ≤ c.loop-j.j = omega (arith, c.loop-j-test.false) in
    c.loop-j.invariant j p (past (length c.args.ps.now) c.loop-j.j j c.args.start f lt) lt n
