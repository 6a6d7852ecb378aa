use Rattle.std.proofs.Common.{◌≡◌, ◌∙◌, ap}
use Rattle.exact_arith.specs.Space.{Vector, dot_of}
use Rattle.exact_arith.proofs.Ranges.{value_kept, kept_128, bounded}
use Rattle.clearance.proofs.planes.heights_over.Goals as goal

both : (a b c d : Vector) → a ≡ c → b ≡ d → dot_of a b ≡ dot_of c d
both a b c d e f = ap (λ (v : Vector). dot_of v b) e ∙ ap (λ (v : Vector). dot_of c v) f

pub returns-clause-over : goal.returns-clause-over
returns-clause-over c =
    let n = c.requires.plane_is.normal_is in
    record {
      a_is = (kept_128 (value_kept c.height.result c.height.ensures.small) tt).same ∙ (c.height.ensures.value ∙ both _ _ _ _ c.difference-a.ensures n);
      b_is = (kept_128 (value_kept c.height-2.result c.height-2.ensures.small) tt).same ∙ (c.height-2.ensures.value ∙ both _ _ _ _ c.difference-b.ensures n);
      c_is = (kept_128 (value_kept c.height-3.result c.height-3.ensures.small) tt).same ∙ (c.height-3.ensures.value ∙ both _ _ _ _ c.difference-c.ensures n);
    }

pub returns-clause-tall : goal.returns-clause-tall
returns-clause-tall c =
    record {
      a_in = bounded (kept_128 (value_kept c.height.result c.height.ensures.small) tt);
      b_in = bounded (kept_128 (value_kept c.height-2.result c.height-2.ensures.small) tt);
      c_in = bounded (kept_128 (value_kept c.height-3.result c.height-3.ensures.small) tt);
    }
