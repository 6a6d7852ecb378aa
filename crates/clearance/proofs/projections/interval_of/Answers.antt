use Rattle.std.proofs.Common.{◌≡◌, ◌∙◌, ap, ℤ, ◌≤ℤ◌, ◌≤◌, unsigned_abs, subst, sym}
use Rattle.exact_arith.specs.Space.{Vector, Face, dot_of}
use Rattle.tri_exact.specs.GridVectors.{at, straight}
use Rattle.exact_arith.proofs.Ranges.{in_128, same_128}
use Rattle.clearance.specs.inner.Projections.{InInterval}
use Rattle.clearance.proofs.projections.interval_of.Goals as goal

-- a bound of a place, both of them in registers
above : (r h : ℤ) (w u v : Vector) → unsigned_abs r ≤ 24576000000000000000000 → unsigned_abs h ≤ 24576000000000000000000 → h ≡ dot_of w v → w ≡ u → r ≤ℤ in_128 h → in_128 r ≤ℤ dot_of u v
above r h w u v a b e f l =
    subst (λ (x : ℤ). x ≤ℤ dot_of u v) (sym (same_128 r a tt)) (subst (λ (x : ℤ). r ≤ℤ x) (same_128 h b tt ∙ (e ∙ ap (λ (x : Vector). dot_of x v) f)) l)

below : (r h : ℤ) (w u v : Vector) → unsigned_abs r ≤ 24576000000000000000000 → unsigned_abs h ≤ 24576000000000000000000 → h ≡ dot_of w v → w ≡ u → in_128 h ≤ℤ r → dot_of u v ≤ℤ in_128 r
below r h w u v a b e f l =
    subst (λ (x : ℤ). dot_of u v ≤ℤ x) (sym (same_128 r a tt)) (subst (λ (x : ℤ). x ≤ℤ r) (same_128 h b tt ∙ (e ∙ ap (λ (x : Vector). dot_of x v) f)) l)

pub returns-clause-inside : goal.returns-clause-inside
returns-clause-inside c =
    let o = at c.args.base in let v = straight c.args.across in
    let a = c.height-a in let b = c.height-b in let z = c.height-c in let k = c.lowest in let m = c.highest in
    subst (λ (t : Face). InInterval o v record { low = in_128 k.result; high = in_128 m.result } t) c.corners_of-corners.ensures.value
    (record {
      a_low = above k.result a.result _ _ v k.ensures.small a.ensures.small a.ensures.value c.difference.ensures k.ensures.a;
      b_low = above k.result b.result _ _ v k.ensures.small b.ensures.small b.ensures.value c.difference-2.ensures k.ensures.b;
      c_low = above k.result z.result _ _ v k.ensures.small z.ensures.small z.ensures.value c.difference-3.ensures k.ensures.c;
      a_high = below m.result a.result _ _ v m.ensures.small a.ensures.small a.ensures.value c.difference.ensures m.ensures.a;
      b_high = below m.result b.result _ _ v m.ensures.small b.ensures.small b.ensures.value c.difference-2.ensures m.ensures.b;
      c_high = below m.result z.result _ _ v m.ensures.small z.ensures.small z.ensures.value c.difference-3.ensures m.ensures.c;
    })
