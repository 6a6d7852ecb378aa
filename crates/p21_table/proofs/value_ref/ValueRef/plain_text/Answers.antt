use Rattle.p21_values.specs.Values.{words_of}
use Rattle.p21_table.proofs.Handles.{found_asked}
use Rattle.p21_table.proofs.value_ref.ValueRef.plain_text.Goals as goal

pub returns-clause-words : goal.returns-clause-words
returns-clause-words c = found_asked c.self.inside.bytes.now c.self.inside.at c.self.inside.says words_of _ c.self.view_is c.plain_by_bytes.result c.plain_by_bytes.ensures.words
