use Rattle.std.proofs.Common.{subst}
use Rattle.book_turn.specs.Passes.{TurnState}
use Rattle.book_turn.specs.Entries.{AllBefore}
use Rattle.book_turn.proofs.turn.Turn.close.Goals as goal

pub returns-clause-passes : goal.returns-clause-passes
returns-clause-passes g c =
    subst (λ (t : TurnState g.row.O-Settings.Denot). AllBefore (λ e. (g.O.SeqObject.stamp_of e).pass) t.passes (g.O.SeqObject.journal c.close.result)) c.self.view_is c.close.ensures.passes
