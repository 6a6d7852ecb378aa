use Rattle.p21_lexer.proofs.OneCut.{one_answer, one_list}
use Rattle.p21_lexer.proofs.laws.one_cut.Goals as goal

pub returns-clause-answer : goal.returns-clause-answer
returns-clause-answer c = λ bytes from one other h k. one_answer bytes from one other h k

pub returns-clause-tokens : goal.returns-clause-tokens
returns-clause-tokens c = λ bytes from to end some others h k e. one_list bytes from to end some others h k e
