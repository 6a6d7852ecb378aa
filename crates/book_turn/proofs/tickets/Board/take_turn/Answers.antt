use Rattle.book_turn.proofs.Calls.{takes_turn, some_has}
use Rattle.book_turn.proofs.tickets.Board.take_turn.Goals as goal

pub draw-turn-requires-clause-free : goal.draw-turn-requires-clause-free
draw-turn-requires-clause-free g c = (c.requires.free.0, some_has _ _ c.requires.free.2)

pub returns-clause-taken : goal.returns-clause-taken
returns-clause-taken g c =
    let d = c.draw-turn.ensures.drew in
    takes_turn g.O.SeqObject.journal g.O.SeqObject.settings g.O.SeqObject.stamp_of g.O.SeqObject.reply_of g.O.SeqObject.added_by c.draw-turn.result c.args.number c.args.call c.args.request c.args.seat.now.me.0 c.serve-answer.new.seat.me.0 c.serve-answer.result _ _ _ d.0 d.1 d.2 c.wait_for.ensures.comes c.serve-answer.ensures.done.0
