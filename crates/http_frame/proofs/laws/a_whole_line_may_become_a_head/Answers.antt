use Rattle.http_frame.proofs.Lines.{may_is_head}
use Rattle.http_frame.proofs.laws.a_whole_line_may_become_a_head.Goals as goal

pub returns : goal.returns
returns c = may_is_head
