use Rattle.std.proofs.Common.{◌∙◌, ap, List, length, drop, arith}
use Rattle.std.proofs.lemmas.List.{take_at}
use Rattle.ear_cut.specs.declared.corners.Corner.{Corner}
use Rattle.void_bridge.specs.HoleLoops.{backwards}
use Rattle.void_bridge.proofs.Orientations.{as_given, turned}
use Rattle.void_bridge.proofs.hole_loops.hole_of.Goals as goal

pub returns-then-not-turns_as_outer : goal.returns-then-not-turns_as_outer
returns-then-not-turns_as_outer c = as_given c.args.view c.args.first c.args.points.now c.in_ok-corners.corners.items c.turns_as_outer.result c.in_ok-corners.ensures c.turns_as_outer.ensures c.if-not-turns_as_outer.true

pub returns : goal.returns
returns c =
    let made = c.turn_round.new.corners in let items = c.in_ok-corners.corners.items in
    take_at made (drop (length made) items) c.in_ok-corners.corners.len (omega (arith, c.turn_round.auto.corners, c.deref_mut.ensures.len))
    ∙ turned c.args.view c.args.first c.args.points.now items made c.turns_as_outer.result c.in_ok-corners.ensures c.turns_as_outer.ensures c.if-not-turns_as_outer.false
    (c.turn_round.ensures ∙ ap (λ (cs : List Corner). backwards cs) c.deref_mut.ensures.value)
