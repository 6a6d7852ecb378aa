use Rattle.bcf_http.specs.Asked.{asked_without_turn, asked_by}
use Rattle.bcf_http.proofs.Plain.{asked_none}
use Rattle.bcf_http.proofs.asked.asked_of.Goals as goal

pub returns-clause-asked : goal.returns-clause-asked
unfolding asked_by
returns-clause-asked c = c.with_turn.ensures (asked_without_turn c.args.moment c.args.request) c.asked_without_turn-asked.ensures.asked

pub returns-clause-none : goal.returns-clause-none
unfolding asked_by
returns-clause-none c =
    asked_none c.args.moment c.args.request c.with_turn.result
    (c.with_turn.ensures (asked_without_turn c.args.moment c.args.request) c.asked_without_turn-asked.ensures.asked)
