use Rattle.std.proofs.Common.{◌≡◌, ◌↔◌, inl, inr, ℕ, ℤ, pos, ◌-ℤ◌, ◌*ℤ◌, ◌≤ℤ◌, ◌<ℤ◌, ◌*◌, ◌≤◌, ◌+◌, to_z, arith, refl, ap, ◌∙◌, subst}
use Rattle.std.proofs.lemmas.Int.{ints}
use mir.Syntax.{w64}
use Rattle.exact_arith.specs.Space.{Vector, minus, dot_of}
use Rattle.tri_exact.specs.GridVectors.{at}
use Rattle.tri_exact.specs.Edges.{Beside, Crosses}
use Rattle.tri_exact.proofs.Choice.{not_both}
use Rattle.exact_arith.proofs.Ranges.{Kept, value_kept, product_kept, difference_kept, kept_64, in_64, fits_64, renamed, at_most, above, zero_kept, natural_kept_64, bounded, same_64}
use Rattle.clearance.proofs.edge_pairs.corner_near.Goals as goal
use Rattle.clearance.proofs.edge_pairs.corner_near.Goals.{After-scalar-gap, After-scalar-part, After-scalar-share}

both : (a b c d : Vector) → a ≡ c → b ≡ d → dot_of a b ≡ dot_of c d
both a b c d e f = ap (λ (v : Vector). dot_of v b) e ∙ ap (λ (v : Vector). dot_of c v) f

bound_kept : (d : ℕ) → d ≤ 10000 → Kept (in_64 (to_z w64 d *ℤ to_z w64 d)) (pos d *ℤ pos d) (10000 * 10000)
bound_kept d h = kept_64 (product_kept (natural_kept_64 d h tt) (natural_kept_64 d h tt)) tt

gap_kept : (c : After-scalar-gap) → Kept (in_64 c.scalar-gap.result) (dot_of (minus (at c.args.p) (at c.args.a)) (minus (at c.args.p) (at c.args.a))) 768000000000000
gap_kept c = renamed (kept_64 (value_kept c.scalar-gap.result c.scalar-gap.ensures.small) tt) (c.scalar-gap.ensures.value ∙ both _ _ _ _ c.difference-way.ensures c.difference-way.ensures)

part_kept : (c : After-scalar-part) → Kept (in_64 c.scalar-part.result) c.scalar-part.result 768000000000000
part_kept c = kept_64 (value_kept c.scalar-part.result c.scalar-part.ensures.small) tt

pub overflow_mul-d : goal.overflow_mul-d
overflow_mul-d c = fits_64 (product_kept (natural_kept_64 c.args.d c.requires.d_in tt) (natural_kept_64 c.args.d c.requires.d_in tt)) tt

negated : (c : After-scalar-part) → Kept (in_64 (pos 0 -ℤ in_64 c.scalar-part.result)) (pos 0 -ℤ c.scalar-part.result) (0 + 768000000000000)
negated c = kept_64 (difference_kept zero_kept (part_kept c)) tt

pub overflow_sub-back : goal.overflow_sub-back
overflow_sub-back c = let k = (goal.at.overflow_sub-back c).After-scalar-part in fits_64 (difference_kept zero_kept (part_kept k)) tt

pub is_beside-requires-clause-share_in : goal.is_beside-requires-clause-share_in
is_beside-requires-clause-share_in c = let k = (goal.at.is_beside-requires-clause-share_in c).After-scalar-part in bounded (negated k)

pub returns-then-gap-d : goal.returns-then-gap-d
returns-then-gap-d c =
    let k = (goal.at.returns-then-gap-d c).After-scalar-gap in
    (λ x. inl (at_most (gap_kept k) (bound_kept c.args.d c.requires.d_in) c.if-gap-d.true), λ x. refl)

beside_is : {P : Type 0} {l w s m l' w' s' : ℤ} → l ≡ l' → w ≡ w' → s ≡ s' → P ↔ Beside l w s m → P ↔ Beside l' w' s' m
beside_is {P} {l} {w} {s} {m} {l'} {w'} {s'} e f g q =
    subst (λ (x : ℤ). P ↔ Beside l' w' x m) g (subst (λ (x : ℤ). P ↔ Beside l' x s m) f (subst (λ (x : ℤ). P ↔ Beside x w s m) e q))

crosses_is : {P : Type 0} {e u r e' u' r' : Vector} {d : ℤ} → e ≡ e' → u ≡ u' → r ≡ r' → P ↔ Crosses e u r d → P ↔ Crosses e' u' r' d
crosses_is {P} {e} {u} {r} {e'} {u'} {r'} {d} f g h q =
    subst (λ (x : Vector). P ↔ Crosses e' u' x d) h (subst (λ (x : Vector). P ↔ Crosses e' x r d) g (subst (λ (x : Vector). P ↔ Crosses x u r d) f q))

module _ (c : After-scalar-part) where
  way : at c.difference-way.result ≡ minus (at c.args.p) (at c.args.a)
  way = c.difference-way.ensures

  side : at c.difference-side.result ≡ minus (at c.args.q) (at c.args.p)
  side = c.difference-side.ensures

  gap_is : in_64 c.scalar-gap.result ≡ dot_of (minus (at c.args.p) (at c.args.a)) (minus (at c.args.p) (at c.args.a))
  gap_is = same_64 c.scalar-gap.result c.scalar-gap.ensures.small tt ∙ c.scalar-gap.ensures.value ∙ both _ _ _ _ way way

  span_is : in_64 c.scalar-span.result ≡ dot_of (minus (at c.args.q) (at c.args.p)) (minus (at c.args.q) (at c.args.p))
  span_is = same_64 c.scalar-span.result c.scalar-span.ensures.small tt ∙ c.scalar-span.ensures.value ∙ both _ _ _ _ side side

  back_is : in_64 (pos 0 -ℤ in_64 c.scalar-part.result) ≡ pos 0 -ℤ dot_of (minus (at c.args.p) (at c.args.a)) (minus (at c.args.q) (at c.args.p))
  back_is = (negated c).same ∙ ap (λ (x : ℤ). pos 0 -ℤ x) (c.scalar-part.ensures.value ∙ both _ _ _ _ way side)

length_is : (c : After-scalar-share) → in_64 c.args.length ≡ dot_of (minus (at c.args.b) (at c.args.a)) (minus (at c.args.b) (at c.args.a))
length_is c = same_64 c.args.length c.requires.length_in tt ∙ c.requires.length_is ∙ both _ _ _ _ c.requires.edge_is c.requires.edge_is

share_is : (c : After-scalar-share) → in_64 c.scalar-share.result ≡ dot_of (minus (at c.args.p) (at c.args.a)) (minus (at c.args.b) (at c.args.a))
share_is c = same_64 c.scalar-share.result c.scalar-share.ensures.small tt ∙ c.scalar-share.ensures.value ∙ both _ _ _ _ c.difference-way.ensures c.requires.edge_is

pub returns-then-is_beside : goal.returns-then-is_beside
returns-then-is_beside c =
    let k = (goal.at.returns-then-is_beside c).After-scalar-part in
    let q = beside_is (span_is k) (gap_is k) (back_is k) c.is_beside.ensures in
    (λ x. inr (inl (q.0 c.if-is_beside.true)), λ x. refl)

pub returns-then-is_beside-2 : goal.returns-then-is_beside-2
returns-then-is_beside-2 c =
    let k = (goal.at.returns-then-is_beside-2 c).After-scalar-part in
    let l = (goal.at.returns-then-is_beside-2 c).After-scalar-share in
    let q = beside_is (length_is l) (gap_is k) (share_is l) c.is_beside-2.ensures in
    (λ x. inr (inr (inl (q.0 c.if-is_beside-2.true))), λ x. refl)

over : (x y : ℤ) → x <ℤ y → y ≤ℤ x → ⊥
over x y h k = omega (arith, ints)

pub returns : goal.returns
returns c =
    let j = (goal.at.returns c).After-scalar-gap in
    let k = (goal.at.returns c).After-scalar-part in
    let l = (goal.at.returns c).After-scalar-share in
    let g = beside_is (span_is k) (gap_is k) (back_is k) c.is_beside.ensures in
    let h = beside_is (length_is l) (gap_is k) (share_is l) c.is_beside-2.ensures in
    let q = crosses_is c.requires.edge_is (side k) (way k) c.is_crossing.ensures in (
      λ x. inr (inr (inr (q.0 x))),
      λ x. elim x [
        | inl y ↦ absurd (over _ _ (above (gap_kept j) (bound_kept c.args.d c.requires.d_in) c.if-gap-d.false) y)
        | inr z ↦ elim z [
          | inl y ↦ not_both c.if-is_beside.false (g.1 y)
          | inr w ↦ elim w [ inl y ↦ not_both c.if-is_beside-2.false (h.1 y) | inr y ↦ q.1 y ]
        ]
      ],
    )
