use Rattle.p21_values.proofs.Stood.{one_meaning}
use Rattle.p21_values.proofs.laws.tables_have_one_meaning.Goals as goal

pub returns : goal.returns
returns c = λ bytes starts heads a b h k. one_meaning bytes starts heads a b h k
