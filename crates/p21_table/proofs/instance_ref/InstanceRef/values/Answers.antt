use Rattle.std.proofs.Common.{ap, arith, ◌∙◌}
use Rattle.p21_values.specs.declared.value.Instance.{Instance}
use Rattle.p21_table.proofs.Kept.{starts_within, values_none, values_stand, values_from, values_told}
use Rattle.p21_table.proofs.instance_ref.InstanceRef.values.Goals as goal

pub returns-then-head-eq0 : goal.returns-then-head-eq0
returns-then-head-eq0 c = c.none.ensures ∙ values_none c.kept-kept.result.bytes.now c.kept-kept.result.starts.now c.kept-kept.result.heads.now c.self.inside.exchange.now c.self.inside.at c.kept-kept.ensures.holds c.self.inside.within c.if-head-eq0.true ∙ ap (λ (i : Instance). i.values) c.self.view_is

pub bounds-kept-head : goal.bounds-kept-head
bounds-kept-head c = let w = starts_within c.kept-kept.result.bytes.now c.kept-kept.result.starts.now c.kept-kept.result.heads.now c.self.inside.exchange.now c.self.inside.at c.kept-kept.ensures.holds c.self.inside.within in let n = c.if-head-eq0.false in grind arith

pub of-requires-clause-within : goal.of-requires-clause-within
of-requires-clause-within c = values_from c.kept-kept.result.bytes.now c.kept-kept.result.starts.now c.kept-kept.result.heads.now c.self.inside.exchange.now c.self.inside.at c.kept-kept.ensures.holds c.self.inside.within c.if-head-eq0.false

pub of-requires-clause-says : goal.of-requires-clause-says
of-requires-clause-says c = values_stand c.kept-kept.result.bytes.now c.kept-kept.result.starts.now c.kept-kept.result.heads.now c.self.inside.exchange.now c.self.inside.at c.kept-kept.ensures.holds c.self.inside.within c.if-head-eq0.false

pub returns : goal.returns
returns c = values_told c.kept-kept.result.bytes.now c.kept-kept.result.starts.now c.kept-kept.result.heads.now c.self.inside.exchange.now c.self.inside.at c.of.result c.kept-kept.ensures.holds c.self.inside.within c.if-head-eq0.false c.of.ensures.says ∙ ap (λ (i : Instance). i.values) c.self.view_is
