use Rattle.http_frame.proofs.EventLaws.{spells_unique}
use Rattle.http_frame.proofs.laws.bytes_have_one_reading.Goals as goal

pub returns : goal.returns
returns c = spells_unique
