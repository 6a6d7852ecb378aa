use Rattle.std.proofs.Common.{ap, arith, ◌∙◌}
use Rattle.std.specs.List.{slice_get}
use Rattle.p21_values.specs.declared.value.Instance.{Instance}
use Rattle.p21_table.proofs.Kept.{starts_within, attribute_none, attribute_from, attribute_stands, attribute_told}
use Rattle.p21_table.proofs.instance_ref.InstanceRef.attribute.Goals as goal

pub returns-then-at-head : goal.returns-then-at-head
returns-then-at-head c = attribute_none c.kept-kept.result.bytes.now c.kept-kept.result.starts.now c.kept-kept.result.heads.now c.self.inside.exchange.now c.self.inside.at c.args.at c.kept-kept.ensures.holds c.self.inside.within c.if-at-head.true ∙ ap (λ (i : Instance). slice_get i.values c.args.at) c.self.view_is

pub bounds-kept-head : goal.bounds-kept-head
bounds-kept-head c = let w = starts_within c.kept-kept.result.bytes.now c.kept-kept.result.starts.now c.kept-kept.result.heads.now c.self.inside.exchange.now c.self.inside.at c.kept-kept.ensures.holds c.self.inside.within in omega (arith, w, c.if-at-head.false)

pub of-requires-clause-within : goal.of-requires-clause-within
of-requires-clause-within c = attribute_from c.kept-kept.result.bytes.now c.kept-kept.result.starts.now c.kept-kept.result.heads.now c.self.inside.exchange.now c.self.inside.at c.args.at c.kept-kept.ensures.holds c.self.inside.within (omega (arith, c.if-at-head.false))

pub of-requires-clause-says : goal.of-requires-clause-says
of-requires-clause-says c = attribute_stands c.kept-kept.result.bytes.now c.kept-kept.result.starts.now c.kept-kept.result.heads.now c.self.inside.exchange.now c.self.inside.at c.args.at c.kept-kept.ensures.holds c.self.inside.within (omega (arith, c.if-at-head.false))

pub returns : goal.returns
returns c = attribute_told c.kept-kept.result.bytes.now c.kept-kept.result.starts.now c.kept-kept.result.heads.now c.self.inside.exchange.now c.self.inside.at c.args.at c.of.result c.kept-kept.ensures.holds c.self.inside.within (omega (arith, c.if-at-head.false)) c.of.ensures ∙ ap (λ (i : Instance). slice_get i.values c.args.at) c.self.view_is
