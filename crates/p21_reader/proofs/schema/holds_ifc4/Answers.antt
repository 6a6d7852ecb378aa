use Rattle.p21_reader.proofs.Asking.{only_ifc4_ok}
use Rattle.p21_reader.proofs.schema.holds_ifc4.Goals as goal

pub returns-in-None : goal.returns-in-None
returns-in-None c = ((λ h. absurd (let e = h in cc)), (λ o. absurd (c.in-None.ensures.none o.0 o.1)))

pub returns-in-Some : goal.returns-in-Some
returns-in-Some c = only_ifc4_ok c.args.bytes.now c.args.inside c.in-Some.spelled.now c.is_ifc4.result c.in-Some.ensures.found c.is_ifc4.ensures
