use Rattle.bim_session.proofs.Reading.{reads_spell}
use Rattle.bim_session.proofs.laws.answers_are_to_the_events.Goals as goal

pub returns : goal.returns
returns c = reads_spell
