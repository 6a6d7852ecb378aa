use Rattle.http_frame.proofs.EventLaws.{begins_stays, fails_stays, spells_front, spells_fault}
use Rattle.http_frame.proofs.laws.readings_stay.Goals as goal

pub returns-clause-request : goal.returns-clause-request
returns-clause-request c = begins_stays

pub returns-clause-fault : goal.returns-clause-fault
returns-clause-fault c = fails_stays

pub returns-clause-front : goal.returns-clause-front
returns-clause-front c = spells_front

pub returns-clause-ended : goal.returns-clause-ended
returns-clause-ended c = spells_fault
