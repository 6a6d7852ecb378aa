use Rattle.std.proofs.Common.{[]}
use Rattle.p21_table.proofs.Handles.{closed_stands}
use Rattle.p21_table.proofs.value_list.Values.none.Goals as goal

pub of-requires-clause-says : goal.of-requires-clause-says
of-requires-clause-says c = ([], ∣ closed_stands ∣₁)

pub returns : goal.returns
returns c = c.of.ensures.says [] closed_stands
