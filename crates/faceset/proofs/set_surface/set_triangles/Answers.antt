use Rattle.std.proofs.Common.{sym, ◌∙◌, option_copied}
use Rattle.faceset.specs.FaceSets.{numbering}
use Rattle.faceset.proofs.Placed.{shown_numbers}
use Rattle.faceset.proofs.SetParts.{polygonal_made, polygonal_none, polygonal_count, flat_made, flat_none, flat_count}
use Rattle.faceset.proofs.set_surface.set_triangles.Goals as goal

pub returns-then-is_polygonal-clause-triangles : goal.returns-then-is_polygonal-clause-triangles
returns-then-is_polygonal-clause-triangles c =
    polygonal_made c.args.exchange.now c.args.points.now c.args.set.now (option_copied c.as_deref-numbers.result) c.listed.result c.faces_triangles.result
    (sym c.is_polygonal.ensures ∙ c.if-is_polygonal.true) (shown_numbers c.in_ok-found.found c.as_deref-numbers.result (numbering c.args.set.now) c.in_ok-found.ensures c.as_deref-numbers.ensures.cases) c.listed.ensures c.faces_triangles.ensures.triangles

pub returns-then-is_polygonal-clause-count : goal.returns-then-is_polygonal-clause-count
returns-then-is_polygonal-clause-count c =
    polygonal_count c.args.exchange.now c.args.set.now c.listed.result c.faces_triangles.result (sym c.is_polygonal.ensures ∙ c.if-is_polygonal.true) c.listed.ensures c.faces_triangles.ensures.count

pub returns-clause-triangles : goal.returns-clause-triangles
returns-clause-triangles c =
    flat_made c.args.exchange.now c.args.points.now c.args.set.now (option_copied c.as_deref-numbers.result) c.listed-else-is_polygonal.result c.triangles.result
    (sym c.is_polygonal.ensures ∙ c.if-is_polygonal.false) (shown_numbers c.in_ok-found.found c.as_deref-numbers.result (numbering c.args.set.now) c.in_ok-found.ensures c.as_deref-numbers.ensures.cases) c.listed-else-is_polygonal.ensures c.triangles.ensures

pub returns-clause-count : goal.returns-clause-count
returns-clause-count c =
    flat_count c.args.exchange.now c.args.points.now c.args.set.now (option_copied c.as_deref-numbers.result) c.listed-else-is_polygonal.result c.triangles.result
    (sym c.is_polygonal.ensures ∙ c.if-is_polygonal.false) c.listed-else-is_polygonal.ensures c.triangles.ensures

pub returns-then-is_polygonal-clause-none : goal.returns-then-is_polygonal-clause-none
returns-then-is_polygonal-clause-none c =
    polygonal_none c.args.exchange.now c.args.points.now c.args.set.now (option_copied c.as_deref-numbers.result) c.listed.result c.faces_triangles.result
    (sym c.is_polygonal.ensures ∙ c.if-is_polygonal.true) (shown_numbers c.in_ok-found.found c.as_deref-numbers.result (numbering c.args.set.now) c.in_ok-found.ensures c.as_deref-numbers.ensures.cases) c.listed.ensures c.faces_triangles.ensures.triangles

pub returns-clause-none : goal.returns-clause-none
returns-clause-none c =
    flat_none c.args.exchange.now c.args.points.now c.args.set.now (option_copied c.as_deref-numbers.result) c.listed-else-is_polygonal.result c.triangles.result
    (sym c.is_polygonal.ensures ∙ c.if-is_polygonal.false) (shown_numbers c.in_ok-found.found c.as_deref-numbers.result (numbering c.args.set.now) c.in_ok-found.ensures c.as_deref-numbers.ensures.cases) c.listed-else-is_polygonal.ensures c.triangles.ensures
