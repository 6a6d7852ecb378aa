use Rattle.bim_model.proofs.Rising.{subjects_rise}
use Rattle.bim_model.proofs.laws.keys_rise.Goals as goal

pub returns : goal.returns
returns c = subjects_rise
