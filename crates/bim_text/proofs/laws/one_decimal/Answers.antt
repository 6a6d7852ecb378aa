use Rattle.bim_text.proofs.Unique.{one_decimal}
use Rattle.bim_text.proofs.laws.one_decimal.Goals as goal

pub returns : goal.returns
returns c = one_decimal
