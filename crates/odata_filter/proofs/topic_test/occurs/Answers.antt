use Rattle.std.proofs.Common.{ap, ◌∙◌}
use Rattle.std.specs.Prelude.{is_some}
use Rattle.memchr.proofs.lemmas.ValueLemmas.{FindsNeedle-value}
use Rattle.odata_filter.proofs.topic_test.occurs.Goals as goal

pub returns : goal.returns
returns c =
    c.is_some.ensures ∙ ap is_some (FindsNeedle-value c.args.text.now c.args.literal.now c.find.result c.find.ensures)
