use Rattle.ifc_units.proofs.units.names_other.Goals as goal

pub returns-in-None : goal.returns-in-None
returns-in-None c = λ h. c.in-None.ensures.none h.other h.names
