use Rattle.std.proofs.Common.{◌∙◌}
use Rattle.model_generator.proofs.Rest.{head_some, end_some}
use Rattle.model_generator.proofs.pieces.Pieces.next.Goals as goal

pub returns-then-self-eq0-clause-some : goal.returns-then-self-eq0-clause-some
returns-then-self-eq0-clause-some c = end_some _ (c.in_ok-text-in-Elements.ensures.ok ∙ c.end.ensures)

pub returns-in_ok-text-in-Head-clause-some : goal.returns-in_ok-text-in-Head-clause-some
returns-in_ok-text-in-Head-clause-some c = head_some _ (c.in_ok-text-in-Head.ensures.ok ∙ c.head.ensures)
