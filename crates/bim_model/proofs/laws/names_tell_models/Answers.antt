use Rattle.bim_model.proofs.Rising.{names_differ, places_are_names}
use Rattle.bim_model.proofs.laws.names_tell_models.Goals as goal

pub returns-clause-names : goal.returns-clause-names
returns-clause-names c = names_differ

pub returns-clause-places : goal.returns-clause-places
returns-clause-places c = places_are_names
