use Rattle.std.proofs.Common.{subst}
use Rattle.bim_model.specs.Points.{shape_of}
use Rattle.bim_model.specs.declared.geometry.Triangle.{Triangle}
use Rattle.clearance.specs.inner.BoxContainment.{InExtent}
use Rattle.clearance.proofs.Surfaces.{in_extent}
use Rattle.tri_pierce.proofs.ListBoxes.{is_extent}
use Rattle.tri_pierce.proofs.piercing_lists.row_pierces.Goals as goal

pub is_outside-requires-clause-around_in : goal.is_outside-requires-clause-around_in
is_outside-requires-clause-around_in c = is_extent c.args.qs.now c.args.around c.requires.around_is c.requires.qs_in

pub returns-then-is_outside : goal.returns-then-is_outside
returns-then-is_outside c = (
  λ x. absurd (cc x),
  λ (k, q, lt, e, y). absurd (c.is_outside.ensures c.if-is_outside.true q (subst (λ (t : Triangle). InExtent c.args.around (shape_of t)) e (in_extent c.args.qs.now c.args.around c.requires.around_is k q lt)) y),
)
