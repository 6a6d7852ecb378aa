use Rattle.std.proofs.Common.{◌≡◌, ◌-◌, []}
use Rattle.book_turn.specs.PassViews.{dealt_view}
use Rattle.book_turn.specs.Passes.{new_passes}
use Rattle.book_turn.proofs.turn.deal.Given as goal

abbrev pub invariant-loop-number : goal.invariant-loop-number
invariant-loop-number g l =
    (l.seat.table_id ≡ l.initial.seat.table_id)
    × (l.seat.me ≡ (dealt_view (g.O.SeqObject.settings l.fn.board.table.shared.key.object.value) l.number (l.fn.passes - l.number), []))
    × (l.all.items ≡ new_passes (record { turn_id = l.fn.board.table.shared.table_id; settings = g.O.SeqObject.settings l.fn.board.table.shared.key.object.value; passes = l.fn.board.table.shared.key.passes }) 0 l.number)
