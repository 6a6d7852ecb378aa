use Rattle.std.proofs.Common.{◌<◌, length, refl, ap, arith, ◌∙◌}
use Rattle.bim_model.specs.declared.element.Element.{Element}
use Rattle.model_walk.proofs.ElementsSurfaced.{near_there, none_surfaced, one_surfaced, all_surfaced}
use Rattle.model_walk.proofs.sketched_surfaces.surfaced.Goals as goal

pub loop-at-init : goal.loop-at-init
loop-at-init c = record {
  surfaced = none_surfaced c.args.stock.now c.args.drawn.elements.items c.args.drawn.sketches;
  end = omega (arith, c.len-at-end.ensures, c.args.drawn.elements.ok.0);
}

pub get-sketch-requires : goal.get-sketch-requires
get-sketch-requires c = omega (arith, c.loop-at-test.true, c.loop-at.invariant.end, c.loop-at.invariant.surfaced.long, c.requires.same)

pub surface_of-requires-clause-there : goal.surface_of-requires-clause-there
surface_of-requires-clause-there c =
    let within : c.loop-at.at < length c.args.drawn.sketches = omega (arith, c.loop-at-test.true, c.loop-at.invariant.end, c.loop-at.invariant.surfaced.long, c.requires.same) in
    (near_there c.args.stock.now c.args.drawn.sketches c.loop-at.at c.get-sketch.result c.requires.near within c.get-sketch.ensures).there

pub surface_of-requires-clause-framed : goal.surface_of-requires-clause-framed
surface_of-requires-clause-framed c =
    let within : c.loop-at.at < length c.args.drawn.sketches = omega (arith, c.loop-at-test.true, c.loop-at.invariant.end, c.loop-at.invariant.surfaced.long, c.requires.same) in
    (near_there c.args.stock.now c.args.drawn.sketches c.loop-at.at c.get-sketch.result c.requires.near within c.get-sketch.ensures).framed

pub surface_of-requires-clause-near : goal.surface_of-requires-clause-near
surface_of-requires-clause-near c =
    let within : c.loop-at.at < length c.args.drawn.sketches = omega (arith, c.loop-at-test.true, c.loop-at.invariant.end, c.loop-at.invariant.surfaced.long, c.requires.same) in
    (near_there c.args.stock.now c.args.drawn.sketches c.loop-at.at c.get-sketch.result c.requires.near within c.get-sketch.ensures).near

pub index_mut-requires : goal.index_mut-requires
index_mut-requires c = omega (arith, c.loop-at-test.true, c.loop-at.invariant.end)

pub loop-at-preserved : goal.loop-at-preserved
loop-at-preserved c =
    let bare = c.index_mut.result.now in
    let made : Element = record {
      guid = bare.guid;
      class = bare.class;
      name = bare.name;
      storey = bare.storey;
      triangles = c.from_vec.result;
    } in
    let within : c.loop-at.at < length c.args.drawn.elements.items = omega (arith, c.loop-at-test.true, c.loop-at.invariant.end, c.loop-at.invariant.surfaced.long) in
    let surfaced = one_surfaced c.args.stock.now c.args.drawn.elements.items c.args.drawn.sketches c.loop-at.at c.loop-at.elements.items _ bare made c.get-sketch.result
    c.loop-at.invariant.surfaced within c.requires.same c.index_mut.ensures.value c.get-sketch.ensures
    (ap (λ ts. record { guid = bare.guid; class = bare.class; name = bare.name; storey = bare.storey; triangles = ts }) (c.from_vec.ensures ∙ c.in_ok-made.ensures)) refl in
    record { surfaced = surfaced; end = omega (arith, c.loop-at.invariant.end, c.loop-at.invariant.surfaced.long, surfaced.long) }

pub returns : goal.returns
returns c =
    all_surfaced c.args.stock.now c.args.drawn.elements.items c.args.drawn.sketches c.loop-at.at c.loop-at.elements.items c.loop-at.invariant.surfaced (omega (arith, c.loop-at-test.false, c.loop-at.invariant.end)) c.requires.same
