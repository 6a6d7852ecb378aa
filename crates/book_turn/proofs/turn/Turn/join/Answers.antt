use Rattle.book_turn.proofs.Ends.{joined, joined_belongs, joined_idle}
use Rattle.book_turn.proofs.turn.Turn.join.Goals as goal

pub invariant_of-into : goal.invariant_of-into
invariant_of-into g c =
    joined_idle (λ e. (g.O.SeqObject.stamp_of e).turn) (λ e. (g.O.SeqObject.stamp_of e).pass) c.into.inside.seat c.into_parts-seat.result.0 c.glue.new.seat c.into.inside.number c.into.inside.made c.into.inside.last c.args.other.number c.args.other.made c.into_parts-seat.result.1 c.max-into-inside.result
    c.into.invariant c.into_parts-seat.ensures.1 c.glue.ensures.glued.0 c.glue.ensures.glued.1 c.max-into-inside.ensures

pub returns-clause-own : goal.returns-clause-own
returns-clause-own g c =
    joined_belongs (λ e. (g.O.SeqObject.stamp_of e).turn) (λ e. (g.O.SeqObject.stamp_of e).pass) c.into.inside.seat c.into_parts-seat.result.0 c.glue.new.seat c.into.inside.number c.into.inside.made _ _ c.into.view_is c.requires.into c.glue.ensures.own.0 c.glue.ensures.glued.0

pub returns-clause-joined : goal.returns-clause-joined
returns-clause-joined g c =
    joined g.O.SeqObject.stamp_of c.into.inside.seat c.into_parts-seat.result.0 c.glue.new.seat c.into.inside.number c.into.inside.made c.args.other.number c.args.other.made c.args.into.now c.args.other
    c.into.view_is c.into_parts-seat.ensures.0 c.glue.ensures.glued.0
