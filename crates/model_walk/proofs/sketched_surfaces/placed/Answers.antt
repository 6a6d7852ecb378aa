use Rattle.std.proofs.Common.{[], ◌∷◌, Option, arith, subst}
use Rattle.placement.specs.declared.frame.Frame.{Frame}
use Rattle.placement.specs.Frames.{carried}
use Rattle.model_walk.specs.inner.SurfacePieces.{ArePlacedNear}
use Rattle.model_walk.proofs.sketched_surfaces.placed.Goals as goal

pub place-requires-clause-near : goal.place-requires-clause-near
place-requires-clause-near c =
    let near = subst (λ (o : Option Frame). ArePlacedNear o (c.args.triangle ∷ [])) c.in-Some.is c.requires.near in
    near 0 (carried c.in-Some.frame c.args.triangle.a) (omega arith)

pub place-requires-in-Some-clause-near : goal.place-requires-in-Some-clause-near
place-requires-in-Some-clause-near c =
    let near = subst (λ (o : Option Frame). ArePlacedNear o (c.args.triangle ∷ [])) c.in-Some.is c.requires.near in
    near 1 (carried c.in-Some.frame c.args.triangle.b) (omega arith)

pub place-requires-in-Some-2-clause-near : goal.place-requires-in-Some-2-clause-near
place-requires-in-Some-2-clause-near c =
    let near = subst (λ (o : Option Frame). ArePlacedNear o (c.args.triangle ∷ [])) c.in-Some.is c.requires.near in
    near 2 (carried c.in-Some.frame c.args.triangle.c) (omega arith)
