use Rattle.std.proofs.Common.{◌≡◌, ◌∙◌, ap, [], ◌∷◌, refl}
use Rattle.exact_arith.specs.Space.{Vector, dot_of, cross_of, minus}
use Rattle.tri_exact.specs.GridVectors.{at, straight}
use Rattle.exact_arith.proofs.Ring.{ring}
use Rattle.exact_arith.proofs.Triples.{scalar, spot}
use Rattle.exact_arith.proofs.Ranges.{kept_128, value_kept}
use Rattle.tri_exact.proofs.products.orient.Goals as goal

dot_comm : (a b : Vector) → dot_of a b ≡ dot_of b a
dot_comm a b = ring (a.x ∷ a.y ∷ a.z ∷ b.x ∷ b.y ∷ b.z ∷ []) (scalar (spot 0) (spot 3)) (scalar (spot 3) (spot 0)) refl

pub returns-clause-value : goal.returns-clause-value
returns-clause-value c =
    let way = minus (at c.args.d) (at c.args.a) in let side = minus (at c.args.b) (at c.args.a) in let other = minus (at c.args.c) (at c.args.a) in
    (kept_128 (value_kept c.height.result c.height.ensures.small) tt).same ∙ c.height.ensures.value
    ∙ (ap (λ (x : Vector). dot_of x (straight c.normal_to.result)) c.difference-way.ensures
    ∙ (ap (λ (x : Vector). dot_of way x) (c.normal_to.ensures ∙ (ap (λ (x : Vector). cross_of x (at c.difference-other.result)) c.difference-side.ensures ∙ ap (λ (x : Vector). cross_of side x) c.difference-other.ensures))
    ∙ dot_comm way (cross_of side other)))
