use Rattle.std.proofs.Common.{◌≡◌, ◌∙◌, ap}
use Rattle.exact_arith.specs.Space.{Vector, dot_of, cross_of}
use Rattle.exact_arith.proofs.Ranges.{value_kept, kept_128, bounded}
use Rattle.clearance.proofs.planes.plane_of.Goals as goal

both : (a b c d : Vector) → a ≡ c → b ≡ d → cross_of a b ≡ cross_of c d
both a b c d e f = ap (λ (v : Vector). cross_of v b) e ∙ ap (λ (v : Vector). cross_of c v) f

squares : (a c : Vector) → a ≡ c → dot_of a a ≡ dot_of c c
squares a c e = ap (λ (v : Vector). dot_of v v) e

pub returns : goal.returns
returns c =
    let n = c.normal_to-normal.ensures ∙ both _ _ _ _ c.difference-edge.ensures c.difference-side.ensures in
    let k = kept_128 (value_kept c.square.result c.square.ensures.small) tt in
    record {
      edge_is = c.difference-edge.ensures;
      side_is = c.difference-side.ensures;
      normal_is = n;
      square_is = k.same ∙ (c.square.ensures.value ∙ squares _ _ n);
      square_in = bounded k;
    }
