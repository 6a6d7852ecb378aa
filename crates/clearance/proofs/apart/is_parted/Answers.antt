use Rattle.std.proofs.Common.{◌≡◌, ◌∙◌, ap, ℕ, ℤ, ◌≤ℤ◌, ◌≤◌, unsigned_abs, subst}
use Rattle.exact_arith.specs.Space.{Vector, minus, dot_of}
use Rattle.tri_exact.specs.GridVectors.{at, straight}
use Rattle.clearance.specs.inner.TriangleCorners.{face_of}
use Rattle.clearance.specs.inner.Apart.{Apart}
use Rattle.exact_arith.proofs.Ranges.{in_128, same_128}
use Rattle.clearance.proofs.Gaps.{near_swaps}
use Rattle.clearance.proofs.Parted.{parted}
use Rattle.clearance.proofs.apart.is_parted.Goals as goal
use Rattle.clearance.proofs.apart.is_parted.Goals.{After-square-square}

-- a bound on an argument as the callee saw it, for the place that it is
up : (h v r : ℤ) → unsigned_abs h ≤ 24576000000000000000000 → h ≡ v → in_128 h ≤ℤ r → v ≤ℤ r
up h v r k e l = subst (λ (x : ℤ). x ≤ℤ r) (same_128 h k tt ∙ e) l

down : (h v r : ℤ) → unsigned_abs h ≤ 24576000000000000000000 → h ≡ v → r ≤ℤ in_128 h → r ≤ℤ v
down h v r k e l = subst (λ (x : ℤ). r ≤ℤ x) (same_128 h k tt ∙ e) l

place : (h : ℤ) (w u v : Vector) → h ≡ dot_of w v → w ≡ u → h ≡ dot_of u v
place h w u v e f = e ∙ ap (λ (x : Vector). dot_of x v) f

seen : (high low f g : ℤ) → unsigned_abs high ≤ 24576000000000000000000 → unsigned_abs low ≤ 24576000000000000000000 → unsigned_abs f ≤ 786432000000000000000000000000 → f ≡ g → (d : ℕ) → Apart (in_128 high) (in_128 low) (in_128 f) d → Apart high low g d
seen high low f g h k l e d a =
    subst (λ (x : ℤ). Apart high low x d) (same_128 f l tt ∙ e) (subst (λ (x : ℤ). Apart high x (in_128 f) d) (same_128 low k tt) (subst (λ (x : ℤ). Apart x (in_128 low) (in_128 f) d) (same_128 high h tt) a))

module _ (c : After-square-square) where
  v : Vector
  v = straight c.args.across

  a_is : c.height-a.result ≡ dot_of (minus (at c.args.t.a) (at c.args.t.a)) (straight c.args.across)
  a_is = place _ _ _ _ c.height-a.ensures.value c.difference.ensures

  b_is : c.height-b.result ≡ dot_of (minus (at c.args.t.b) (at c.args.t.a)) (straight c.args.across)
  b_is = place _ _ _ _ c.height-b.ensures.value c.difference-2.ensures

  c_is : c.height-c.result ≡ dot_of (minus (at c.args.t.c) (at c.args.t.a)) (straight c.args.across)
  c_is = place _ _ _ _ c.height-c.ensures.value c.difference-3.ensures

  p_is : c.height-p.result ≡ dot_of (minus (at c.args.s.a) (at c.args.t.a)) (straight c.args.across)
  p_is = place _ _ _ _ c.height-p.ensures.value c.difference-4.ensures

  q_is : c.height-q.result ≡ dot_of (minus (at c.args.s.b) (at c.args.t.a)) (straight c.args.across)
  q_is = place _ _ _ _ c.height-q.ensures.value c.difference-5.ensures

  r_is : c.height-r.result ≡ dot_of (minus (at c.args.s.c) (at c.args.t.a)) (straight c.args.across)
  r_is = place _ _ _ _ c.height-r.ensures.value c.difference-6.ensures

pub returns-then-is_gap : goal.returns-then-is_gap
returns-then-is_gap c = let k = (goal.at.returns-then-is_gap c).After-square-square in
    λ x near. parted (face_of c.args.t) (face_of c.args.s) c.args.d (straight c.args.across) (at c.args.t.a) c.highest-top.result c.lowest-bottom.result
    (up _ _ _ c.height-a.ensures.small (a_is k) c.highest-top.ensures.a) (up _ _ _ c.height-b.ensures.small (b_is k) c.highest-top.ensures.b) (up _ _ _ c.height-c.ensures.small (c_is k) c.highest-top.ensures.c)
    (down _ _ _ c.height-p.ensures.small (p_is k) c.lowest-bottom.ensures.a) (down _ _ _ c.height-q.ensures.small (q_is k) c.lowest-bottom.ensures.b) (down _ _ _ c.height-r.ensures.small (r_is k) c.lowest-bottom.ensures.c)
    (seen _ _ _ _ c.highest-top.ensures.small c.lowest-bottom.ensures.small c.square-square.ensures.small c.square-square.ensures.value c.args.d (c.is_gap.ensures c.if-is_gap.true)) near

pub returns : goal.returns
returns c = let k = (goal.at.returns c).After-square-square in
    λ x near. parted (face_of c.args.s) (face_of c.args.t) c.args.d (straight c.args.across) (at c.args.t.a) c.highest-high.result c.lowest-low.result
    (up _ _ _ c.height-p.ensures.small (p_is k) c.highest-high.ensures.a) (up _ _ _ c.height-q.ensures.small (q_is k) c.highest-high.ensures.b) (up _ _ _ c.height-r.ensures.small (r_is k) c.highest-high.ensures.c)
    (down _ _ _ c.height-a.ensures.small (a_is k) c.lowest-low.ensures.a) (down _ _ _ c.height-b.ensures.small (b_is k) c.lowest-low.ensures.b) (down _ _ _ c.height-c.ensures.small (c_is k) c.lowest-low.ensures.c)
    (seen _ _ _ _ c.highest-high.ensures.small c.lowest-low.ensures.small c.square-square.ensures.small c.square-square.ensures.value c.args.d (c.is_gap-2.ensures x)) (near_swaps (face_of c.args.t) (face_of c.args.s) c.args.d near)
