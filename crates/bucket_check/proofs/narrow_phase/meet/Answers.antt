use Rattle.bucket_check.proofs.Known.{in_grid}
use Rattle.bucket_check.proofs.narrow_phase.meet.Goals as goal

pub solids_near-requires-clause-a_in : goal.solids_near-requires-clause-a_in
solids_near-requires-clause-a_in g c = in_grid _ c.requires.a_in

pub solids_near-requires-clause-b_in : goal.solids_near-requires-clause-b_in
solids_near-requires-clause-b_in g c = in_grid _ c.requires.b_in

pub solids_pierce-requires-clause-a_in : goal.solids_pierce-requires-clause-a_in
solids_pierce-requires-clause-a_in g c = in_grid _ c.requires.a_in

pub solids_pierce-requires-clause-b_in : goal.solids_pierce-requires-clause-b_in
solids_pierce-requires-clause-b_in g c = in_grid _ c.requires.b_in
