use Rattle.std.proofs.Common.{◌∙◌}
use Rattle.bim_model.specs.Keys.{subjects_of}
use Rattle.bucket_grid.specs.Subjects.{subject_at}
use Rattle.bucket_check.proofs.Tested.{decides}
use Rattle.bucket_check.proofs.narrow_phase.clash_of.Goals as goal

pub returns-in-None-clause-rule : goal.returns-in-None-clause-rule
returns-in-None-clause-rule g c =
    let a = c.args in
    let version = a.grid.now.version in
    decides version.rules (subject_at (subjects_of version.models) a.a) (subject_at (subjects_of version.models) a.b) c.rules-rules.result.now c.element-first.result.now c.element-second.result.now c.same_model-same_model.result _
    c.rules-rules.ensures.same c.element-first.ensures.element c.element-second.ensures.element c.same_model-same_model.ensures c.in-None.ensures

pub returns-in-Some-clause-rule : goal.returns-in-Some-clause-rule
returns-in-Some-clause-rule g c =
    let a = c.args in
    let version = a.grid.now.version in
    c.rule_if_met.ensures.rule
    ∙ decides version.rules (subject_at (subjects_of version.models) a.a) (subject_at (subjects_of version.models) a.b) c.rules-rules.result.now c.element-first.result.now c.element-second.result.now c.same_model-same_model.result _
    c.rules-rules.ensures.same c.element-first.ensures.element c.element-second.ensures.element c.same_model-same_model.ensures c.in-Some.ensures
