use Rattle.ifc_schema.proofs.OneFlaw.{one_survey_fault, surveyed_apart}
use Rattle.ifc_schema.proofs.laws.one_survey_fault.Goals as goal

pub returns : goal.returns
returns c = record { fault = one_survey_fault; apart = surveyed_apart }
