use Rattle.std.proofs.Common.{List, subst}
use Rattle.bim_model.specs.Points.{shape_of}
use Rattle.bim_model.specs.declared.geometry.Triangle.{Triangle}
use Rattle.bim_model.specs.declared.geometry.Extent.{Extent}
use Rattle.bim_model.specs.Boxes.{IsExtentOf}
use Rattle.clearance.specs.inner.BoxContainment.{InExtent}
use Rattle.clearance.proofs.Surfaces.{in_extent}
use Rattle.tri_pierce.specs.Piercing.{Pierces, ListsPierce}
use Rattle.tri_pierce.proofs.DecidedSigns.{lists_swap}
use Rattle.tri_pierce.proofs.ListBoxes.{is_extent}
use Rattle.tri_pierce.proofs.piercing_lists.run_pierces.Goals as goal

pub are_apart-requires-clause-own_in : goal.are_apart-requires-clause-own_in
are_apart-requires-clause-own_in c = is_extent c.args.run.now c.extent_of-own.result c.extent_of-own.ensures c.requires.run_in

pub are_apart-requires-clause-around_in : goal.are_apart-requires-clause-around_in
are_apart-requires-clause-around_in c = is_extent c.args.qs.now c.args.around c.requires.around_is c.requires.qs_in

-- lists in boxes of which no triangles pierce
never : (run qs : List Triangle) (own around : Extent) → IsExtentOf run own → IsExtentOf qs around
    → ((p q : Triangle) → InExtent own (shape_of p) → InExtent around (shape_of q) → Pierces p q → ⊥) → ListsPierce run qs → ⊥
never run qs own around f g h (k, p, lt, e, (l, q, gt, i, y)) =
    h p q (subst (λ (t : Triangle). InExtent own (shape_of t)) e (in_extent run own f k p lt))
    (subst (λ (t : Triangle). InExtent around (shape_of t)) i (in_extent qs around g l q gt)) y

pub returns-then-are_apart : goal.returns-then-are_apart
returns-then-are_apart c = (
  λ x. absurd (cc x),
  λ y. absurd (never c.args.run.now c.args.qs.now c.extent_of-own.result c.args.around c.extent_of-own.ensures c.requires.around_is (c.are_apart.ensures c.if-are_apart.true) y),
)

pub returns : goal.returns
returns c = (λ x. lists_swap c.args.qs.now c.args.run.now (c.rows_pierce.ensures.0 x), λ y. c.rows_pierce.ensures.1 (lists_swap c.args.run.now c.args.qs.now y))
