use Rattle.std.proofs.Common.{◌≡◌, ◌∙◌, ap}
use Rattle.exact_arith.specs.Space.{Vector, cross_of}
use Rattle.exact_arith.proofs.Ranges.{bounded}
use Rattle.tri_exact.proofs.Choice.{both_products}
use Rattle.tri_pierce.proofs.Registers.{kept}
use Rattle.tri_pierce.proofs.heights.heights_over.Goals as goal

both : (a b c d : Vector) → a ≡ c → b ≡ d → cross_of a b ≡ cross_of c d
both a b c d e f = ap (λ (v : Vector). cross_of v b) e ∙ ap (λ (v : Vector). cross_of c v) f

pub returns-clause-value : goal.returns-clause-value
returns-clause-value c =
    let n = c.normal_to-normal.ensures ∙ both _ _ _ _ c.difference-edge.ensures c.difference-side.ensures in
    record {
      a_is = (kept c.height.result c.height.ensures.small).same ∙ (c.height.ensures.value ∙ both_products _ _ _ _ c.difference-a.ensures n);
      b_is = (kept c.height-2.result c.height-2.ensures.small).same ∙ (c.height-2.ensures.value ∙ both_products _ _ _ _ c.difference-b.ensures n);
      c_is = (kept c.height-3.result c.height-3.ensures.small).same ∙ (c.height-3.ensures.value ∙ both_products _ _ _ _ c.difference-c.ensures n);
    }

pub returns-clause-tall : goal.returns-clause-tall
returns-clause-tall c =
    record {
      a_in = bounded (kept c.height.result c.height.ensures.small);
      b_in = bounded (kept c.height-2.result c.height-2.ensures.small);
      c_in = bounded (kept c.height-3.result c.height-3.ensures.small);
    }
