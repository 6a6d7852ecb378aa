use Rattle.std.proofs.Common.{ap, ◌∙◌}
use Rattle.ifc_keywords.specs.Codes.{code_at}
use Rattle.p21_values.specs.declared.value.Instance.{Instance}
use Rattle.p21_table.proofs.Kept.{code_said}
use Rattle.p21_table.proofs.instance_ref.InstanceRef.code.Goals as goal

pub returns : goal.returns
returns c =
    code_said c.kept.result.bytes.now c.kept.result.starts.now c.kept.result.heads.now c.self.inside.exchange.now c.self.inside.at c.kept.ensures.holds c.self.inside.within
    ∙ ap (λ (i : Instance). code_at i.keyword) c.self.view_is
