use Rattle.http_frame.proofs.HeadFacts.{two_values}
use Rattle.http_frame.proofs.facts.only_named.Goals as goal

pub returns-else-count_named-eq1 : goal.returns-else-count_named-eq1
returns-else-count_named-eq1 c =
    let first = c.in-Some.ensures.some in two_values _ _ first.1.0 c.count_named.result first.1.1 c.count_named.ensures c.if-count_named-eq1.false
