use Rattle.std.proofs.Common.{ap, ◌∙◌}
use Rattle.p21_values.specs.declared.value.Instance.{Instance}
use Rattle.p21_table.proofs.Kept.{keyword_none, word_before, word_within, word_is, word_said}
use Rattle.p21_table.proofs.instance_ref.InstanceRef.keyword.Goals as goal

pub returns-then-head : goal.returns-then-head
returns-then-head c = keyword_none c.kept-kept.result.bytes.now c.kept-kept.result.starts.now c.kept-kept.result.heads.now c.self.inside.exchange.now c.self.inside.at c.kept-kept.ensures.holds c.self.inside.within c.if-head.true ∙ ap (λ (i : Instance). i.keyword) c.self.view_is

pub between-requires-clause-order : goal.between-requires-clause-order
between-requires-clause-order c = word_before c.kept-kept.result.bytes.now c.kept-kept.result.starts.now c.kept-kept.result.heads.now c.self.inside.exchange.now c.self.inside.at c.kept-kept.ensures.holds c.self.inside.within c.if-head.false

pub between-requires-clause-within : goal.between-requires-clause-within
between-requires-clause-within c = word_within c.kept-kept.result.bytes.now c.kept-kept.result.starts.now c.kept-kept.result.heads.now c.self.inside.exchange.now c.self.inside.at c.kept-kept.ensures.holds c.self.inside.within c.if-head.false

pub of-requires : goal.of-requires
of-requires c = rw c.between.ensures (word_is c.kept-kept.result.bytes.now c.kept-kept.result.starts.now c.kept-kept.result.heads.now c.self.inside.exchange.now c.self.inside.at c.kept-kept.ensures.holds c.self.inside.within c.if-head.false)

pub returns : goal.returns
returns c =
    let e = word_said c.kept-kept.result.bytes.now c.kept-kept.result.starts.now c.kept-kept.result.heads.now c.self.inside.exchange.now c.self.inside.at c.kept-kept.ensures.holds c.self.inside.within c.if-head.false ∙ ap (λ (i : Instance). i.keyword) c.self.view_is in
    let o = c.of.ensures in
    let b = c.between.ensures in
    cc
