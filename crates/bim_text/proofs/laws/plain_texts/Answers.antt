use Rattle.bim_text.proofs.AllRows.{text_plain}
use Rattle.bim_text.proofs.laws.plain_texts.Goals as goal

pub returns : goal.returns
returns c = text_plain
