use Rattle.std.proofs.Common.{◌∙◌}
use Rattle.p21_table.proofs.Handles.{same_told}
use Rattle.p21_table.proofs.value_list.Values.iter.Goals as goal

pub returns : goal.returns
returns c = same_told c.self.inside.bytes.now c.self.inside.at c.self.inside.says c.of.result c.of.ensures.says ∙ c.self.view_is
