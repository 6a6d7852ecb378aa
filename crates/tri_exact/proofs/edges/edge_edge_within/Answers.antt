use Rattle.std.proofs.Common.{◌≡◌, pos, ◌*ℤ◌, ◌↔◌, Bool, IsTrue, true, false, refl, sym, ◌∙◌, ℕ}
use Rattle.exact_arith.specs.Space.{Vector}
use Rattle.tri_exact.specs.GridVectors.{at}
use Rattle.tri_exact.specs.Within.{PointEdgeWithin, EdgesWithin}
use Rattle.tri_exact.specs.Edges.{LinesClose}
use Rattle.tri_exact.proofs.TwoEdges.{EdgesFound, lines, end_a, end_b, end_p, end_q, edges_found}
use Rattle.tri_exact.proofs.EdgesTest.{point_yes, point_no, found_edges, edges_yes, edges_no}
use Rattle.tri_exact.proofs.edges.edge_edge_within.Goals as goal

found : (a b p q : Vector) (d : ℕ) → EdgesFound a b p q (pos d *ℤ pos d) → EdgesWithin a b p q d
found a b p q d f = edges_yes a b p q d (found_edges a b p q (pos d *ℤ pos d) f)

not_both : {b : Bool} {X : Type 0} → b ≡ false → b ≡ true → X
not_both e f = absurd (cc (sym e ∙ f))

-- the last test decides where the difference_of_products before it have failed
decided : (a b p q : Vector) (d : ℕ) (r v w x y : Bool) → IsTrue v ↔ PointEdgeWithin a p q d → v ≡ false → IsTrue w ↔ PointEdgeWithin b p q d → w ≡ false →
    IsTrue x ↔ PointEdgeWithin p a b d → x ≡ false → IsTrue y ↔ PointEdgeWithin q a b d → y ≡ false → IsTrue r ↔ LinesClose a b p q (pos d *ℤ pos d) → IsTrue r ↔ EdgesWithin a b p q d
decided a b p q d r v w x y ha na hb nb hp np hq nq l = (
  λ z. found a b p q d (lines (l.0 z)),
  λ z. elim (edges_found a b p q (pos d *ℤ pos d) (edges_no a b p q d z)) [
    | lines c ↦ l.1 c
    | end_a c ↦ not_both na (ha.1 (point_yes a p q d c))
    | end_b c ↦ not_both nb (hb.1 (point_yes b p q d c))
    | end_p c ↦ not_both np (hp.1 (point_yes p a b d c))
    | end_q c ↦ not_both nq (hq.1 (point_yes q a b d c))
  ],
)

pub returns-then-point_edge_within : goal.returns-then-point_edge_within
returns-then-point_edge_within c =
    let a = at c.args.a in let b = at c.args.b in let p = at c.args.p in let q = at c.args.q in let d = c.args.d in
    (λ x. found a b p q d (end_a (point_no a p q d (c.point_edge_within.ensures.0 c.if-point_edge_within.true))), λ x. refl)

pub returns-then-point_edge_within-2 : goal.returns-then-point_edge_within-2
returns-then-point_edge_within-2 c =
    let a = at c.args.a in let b = at c.args.b in let p = at c.args.p in let q = at c.args.q in let d = c.args.d in
    (λ x. found a b p q d (end_b (point_no b p q d (c.point_edge_within-2.ensures.0 c.if-point_edge_within-2.true))), λ x. refl)

pub returns-then-point_edge_within-3 : goal.returns-then-point_edge_within-3
returns-then-point_edge_within-3 c =
    let a = at c.args.a in let b = at c.args.b in let p = at c.args.p in let q = at c.args.q in let d = c.args.d in
    (λ x. found a b p q d (end_p (point_no p a b d (c.point_edge_within-3.ensures.0 c.if-point_edge_within-3.true))), λ x. refl)

pub returns-then-point_edge_within-4 : goal.returns-then-point_edge_within-4
returns-then-point_edge_within-4 c =
    let a = at c.args.a in let b = at c.args.b in let p = at c.args.p in let q = at c.args.q in let d = c.args.d in
    (λ x. found a b p q d (end_q (point_no q a b d (c.point_edge_within-4.ensures.0 c.if-point_edge_within-4.true))), λ x. refl)

pub returns : goal.returns
returns c =
    decided (at c.args.a) (at c.args.b) (at c.args.p) (at c.args.q) c.args.d c.lines_within.result c.point_edge_within.result c.point_edge_within-2.result c.point_edge_within-3.result c.point_edge_within-4.result
    c.point_edge_within.ensures c.if-point_edge_within.false c.point_edge_within-2.ensures c.if-point_edge_within-2.false c.point_edge_within-3.ensures c.if-point_edge_within-3.false c.point_edge_within-4.ensures c.if-point_edge_within-4.false c.lines_within.ensures
