use Rattle.std.proofs.Common.{Some, ap, ◌∙◌, sym}
use Rattle.placement.proofs.Walking.{no_rank}
use Rattle.placement.proofs.Composed.{composed_none, composed_some}
use Rattle.placement.specs.Placed.{frame_in}
use Rattle.placement.proofs.frames.Frames.compose.Goals as goal

pub returns-in_default : goal.returns-in_default
returns-in_default c =
    let o = c.in_ok-own.ensures in
    let p = c.in_ok-standing.ensures.some.parent ∙ ap Some (no_rank c.in_ok-standing.standing.parent c.in_default.not-Some) in
    composed_none c.args.exchange.now c.args.scale c.args.mode (frame_in c.args.self.now) c.args.id c.in_ok-own.own p o.frame o.is_frame o.near

pub then-requires-clause-outer : goal.then-requires-clause-outer
then-requires-clause-outer c =
    let p = c.requires.placed c.in-Some.parent c.in_ok-outer.outer (sym c.in_ok-outer.ensures) in
    p.is_frame

pub then-requires-clause-outer_within : goal.then-requires-clause-outer_within
then-requires-clause-outer_within c =
    let p = c.requires.placed c.in-Some.parent c.in_ok-outer.outer (sym c.in_ok-outer.ensures) in
    p.near

pub returns : goal.returns
returns c =
    let o = c.in_ok-own.ensures in
    let e = c.then.ensures in
    composed_some c.args.exchange.now c.args.scale c.args.mode (frame_in c.args.self.now) c.args.id c.in-Some.parent c.in_ok-own.own c.in_ok-outer.outer c.then.result
    (c.in_ok-standing.ensures.some.parent ∙ ap Some c.in-Some.is) o.frame o.near (sym c.in_ok-outer.ensures) c.requires.placed e.frame e.carries e.within
