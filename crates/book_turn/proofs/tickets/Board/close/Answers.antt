use Rattle.std.proofs.Common.{sym, ap, subst, ◌∙◌}
use Rattle.book_turn.specs.Entries.{AllBefore}
use Rattle.book_turn.proofs.Keeps.{some-inj}
use Rattle.book_turn.proofs.Ends.{ended, no_none}
use Rattle.book_turn.proofs.tickets.Board.close.Goals as goal

pub unreachable-requires : goal.unreachable-requires
unreachable-requires g c =
    let e = ended g.O.SeqObject.journal g.O.SeqObject.settings (λ e. (g.O.SeqObject.stamp_of e).turn) (λ e. (g.O.SeqObject.stamp_of e).pass) _ _ c.args.seat.id c.args.seat.me.0 _ _ c.take-slot.result c.close_with-closed.ensures.values.2 c.requires.free c.requires.all.1 c.requires.all.0 c.take-slot.ensures.value in
    no_none c.take-slot.result e.0 e.1 c.in_default.is

pub returns-clause-journal : goal.returns-clause-journal
returns-clause-journal g c =
    let e = ended g.O.SeqObject.journal g.O.SeqObject.settings (λ e. (g.O.SeqObject.stamp_of e).turn) (λ e. (g.O.SeqObject.stamp_of e).pass) _ _ c.args.seat.id c.args.seat.me.0 _ _ c.take-slot.result c.close_with-closed.ensures.values.2 c.requires.free c.requires.all.1 c.requires.all.0 c.take-slot.ensures.value in
    ap g.O.SeqObject.journal (some-inj (sym c.in-Some.is ∙ e.1)) ∙ e.2

pub returns-clause-settings : goal.returns-clause-settings
returns-clause-settings g c =
    let e = ended g.O.SeqObject.journal g.O.SeqObject.settings (λ e. (g.O.SeqObject.stamp_of e).turn) (λ e. (g.O.SeqObject.stamp_of e).pass) _ _ c.args.seat.id c.args.seat.me.0 _ _ c.take-slot.result c.close_with-closed.ensures.values.2 c.requires.free c.requires.all.1 c.requires.all.0 c.take-slot.ensures.value in
    ap g.O.SeqObject.settings (some-inj (sym c.in-Some.is ∙ e.1)) ∙ e.3

pub returns-clause-passes : goal.returns-clause-passes
returns-clause-passes g c =
    let e = ended g.O.SeqObject.journal g.O.SeqObject.settings (λ e. (g.O.SeqObject.stamp_of e).turn) (λ e. (g.O.SeqObject.stamp_of e).pass) _ _ c.args.seat.id c.args.seat.me.0 _ _ c.take-slot.result c.close_with-closed.ensures.values.2 c.requires.free c.requires.all.1 c.requires.all.0 c.take-slot.ensures.value in
    subst (λ o. AllBefore (λ e. (g.O.SeqObject.stamp_of e).pass) c.args.self.table.shared.key.passes (g.O.SeqObject.journal o)) (sym (some-inj (sym c.in-Some.is ∙ e.1))) e.4
