use Rattle.http_frame.proofs.StepLaws.{answers_are_first, more_is_none_left}
use Rattle.http_frame.proofs.laws.answers_are_the_events.Goals as goal

pub returns-clause-first : goal.returns-clause-first
returns-clause-first c = λ old new told mark acts es e. answers_are_first old new told mark acts es e

pub returns-clause-more : goal.returns-clause-more
returns-clause-more c = more_is_none_left
