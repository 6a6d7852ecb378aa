use Rattle.std.proofs.Common.{ℕ, ◌≡◌, ◌+◌, ◌<◌, ◌≤◌, arith, refl, subst}
use Rattle.clearance.specs.inner.TriangleRuns.{NoneInRow}
use Rattle.clearance.proofs.Lists.{by_lt}
use Rattle.clearance.proofs.Sixteenths.{none_in_rows}
use Rattle.clearance.proofs.triangle_runs.all_near.Goals as goal

pub returns-then-row_near : goal.returns-then-row_near
returns-then-row_near c = (λ x. c.row_near.ensures.near c.if-row_near.true, λ x. refl)

same : (i j : ℕ) → i < j + 1 → j ≤ i → j ≡ i
same i j f g = omega (arith, f, g)

pub loop-start-preserved : goal.loop-start-preserved
loop-start-preserved c =
    λ i lt. by_lt i c.loop-start.start (c.loop-start.invariant i)
    (λ k. subst (λ (s : ℕ). NoneInRow c.args.ps.now s c.args.qs.now c.args.d) (same i c.loop-start.start lt k) (c.row_near.ensures.far c.if-row_near.false))

before : (i k : ℕ) → 16 ≤ k → i < 16 → i < k
before i k f g = omega (arith, f, g)

pub returns : goal.returns
returns c =
    let h : 16 ≤ c.loop-start.start = omega (arith, c.loop-start-test.false) in
    (λ x. absurd (cc x), λ n. absurd (none_in_rows c.args.ps.now c.args.qs.now c.args.d (λ i lt. c.loop-start.invariant i (before i c.loop-start.start h lt)) n))
