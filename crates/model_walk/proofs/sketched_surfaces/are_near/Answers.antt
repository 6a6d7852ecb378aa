use Rattle.std.proofs.Common.{Option, sym, subst}
use Rattle.std.proofs.lemmas.Bool.{OnTrue_at, OnTrue_from}
use Rattle.placement.specs.declared.frame.Frame.{Frame}
use Rattle.model_walk.specs.inner.SurfacePieces.{ArePlacedNear}
use Rattle.model_walk.specs.Sketches.{pieces_in, range_triangles}
use Rattle.model_walk.proofs.SurfacesPlaced.{unmapped_near, identity_near}
use Rattle.model_walk.proofs.sketched_surfaces.are_near.Goals as goal

pub returns-then-are_unmapped : goal.returns-then-are_unmapped
returns-then-are_unmapped c =
    let stock = c.args.stock.now in
    let near = unmapped_near stock.points stock.sets (pieces_in stock.pieces.items c.args.range) c.requires.sound.sets (OnTrue_at c.if-are_unmapped.true c.are_unmapped.ensures) in
    OnTrue_from c.are_unmapped.result (ArePlacedNear c.args.frame (range_triangles stock c.args.range)) (λ t. subst (λ (o : Option Frame). ArePlacedNear o (range_triangles stock c.args.range)) (sym c.in-None.is) near)

pub returns-else-are_unmapped : goal.returns-else-are_unmapped
returns-else-are_unmapped c =
    let all = range_triangles c.args.stock.now c.args.range in
    OnTrue_from c.are_pieces_near-else-are_unmapped.result (ArePlacedNear c.args.frame all)
    (λ t. subst (λ (o : Option Frame). ArePlacedNear o all) (sym c.in-None.is) (identity_near c.identity.result all c.identity.ensures.carries (OnTrue_at t c.are_pieces_near-else-are_unmapped.ensures)))
