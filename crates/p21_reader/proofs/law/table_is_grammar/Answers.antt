use Rattle.p21_reader.proofs.Viable.{file_iff, viable_iff}
use Rattle.p21_reader.proofs.law.table_is_grammar.Goals as goal

pub returns-clause-file : goal.returns-clause-file
returns-clause-file c = λ ts. file_iff ts

pub returns-clause-viable : goal.returns-clause-viable
returns-clause-viable c = λ ts. viable_iff ts
