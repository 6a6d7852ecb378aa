use Rattle.std.proofs.Common.{◌∙◌, Result, Err, ap}
use Rattle.bcf_http.specs.declared.asked.Refusal.{Refusal}
use Rattle.bcf_http.specs.declared.asked.Action.{Action}
use Rattle.bcf_http.proofs.BadTurns.{bad_asked, bad_fault}
use Rattle.bcf_http.proofs.asked.bad_turn.Goals as goal

pub returns-in-Ok : goal.returns-in-Ok
returns-in-Ok c meant meant_is = bad_asked c.args.asked meant meant_is c.in-Ok.action c.told_of.result c.in-Ok.is c.told_of.ensures

pub returns-in-Err-Fault : goal.returns-in-Err-Fault
returns-in-Err-Fault c meant meant_is =
    bad_fault c.args.asked meant meant_is c.in-Err-Fault.fault c.fault_or_turn.result
    (c.in-Err-Fault.is ∙ ap (λ (r : Refusal). (let e : Result Action Refusal = Err r in e)) c.in-Err-Fault.field-0-is) c.fault_or_turn.ensures
