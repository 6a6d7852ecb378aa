use Rattle.std.proofs.Common.{◌≡◌, ◌++◌, ap₂, ◌∙◌}
use Rattle.std.specs.Prelude.{codes}
use Rattle.std.proofs.lemmas.Result.{IfOk-weaker}
use Rattle.book_topics.specs.OfClashes.{clash_title}
use Rattle.book_topics.proofs.topics_of_clashes.clash_title.Goals as goal

pub returns : goal.returns
returns c =
    IfOk-weaker c.of.result _ (λ title. title ≡ clash_title c.args.a.now c.args.b.now)
    (λ title same. same ∙ c.as_str.ensures.value ∙ c.in_ok-title.ensures.ok
    ∙ ap₂ (λ a b. codes "Clash of " ++ (a ++ (codes " and " ++ b))) c.as_str-first.ensures c.as_str-second.ensures)
    c.of.ensures
