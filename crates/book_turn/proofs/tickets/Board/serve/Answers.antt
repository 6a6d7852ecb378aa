use Rattle.std.proofs.Common.{◌∷◌, Some, sym, ap, ◌∙◌, subst}
use Rattle.atomic_table.specs.Table.{rest}
use Rattle.book_turn.specs.Entries.{AllBefore}
use Rattle.book_turn.proofs.Calls.{same_hand, acted, put_hand, may_pass, some_has, served}
use Rattle.book_turn.proofs.tickets.Board.serve.Goals as goal

pub exchange-hand-requires : goal.exchange-hand-requires
exchange-hand-requires g c = let k = c.requires.called in (c.requires.own, (Some k.0, k.2 ∙ ap (λ l. (0, Some k.0) ∷ l) (sym (ap rest k.2))))

pub act-answer-requires-clause-after : goal.act-answer-requires-clause-after
act-answer-requires-clause-after g c =
    let k = c.requires.called in
    let same = same_hand _ _ _ _ k.2 c.exchange-hand.ensures.2 c.in-Some.is in
    subst (AllBefore (λ e. (g.O.SeqObject.stamp_of e).turn) c.args.stamp.turn) (sym (ap g.O.SeqObject.journal same ∙ k.3)) c.requires.after

pub pass_on-requires-clause-called : goal.pass_on-requires-clause-called
pass_on-requires-clause-called g c =
    let k = c.requires.called in let a = c.act-answer.ensures in
    let same = same_hand _ _ _ _ k.2 c.exchange-hand.ensures.2 c.in-Some.is in
    let hand = put_hand _ _ _ _ _ _ k.2 c.exchange-hand.ensures.3 c.exchange-empty.ensures.3 in
    let told = acted g.O.SeqObject.journal g.O.SeqObject.settings g.O.SeqObject.stamp_of g.O.SeqObject.reply_of g.O.SeqObject.added_by c.in-Some.object c.act-answer.new.self c.args.seat.now.me.0 c.args.stamp c.args.request c.act-answer.result
    (ap g.O.SeqObject.journal same ∙ k.3) (k.4 ∙ ap (λ o. Some (g.O.SeqObject.settings o)) (sym same)) a.settings a.reply a.added a.unchanged g.met.O.SeqObject.stamped c.requires.named in
    let m = may_pass g.O.SeqObject.journal g.O.SeqObject.settings g.O.SeqObject.stamp_of g.O.SeqObject.reply_of g.O.SeqObject.added_by c.args.stamp.turn c.args.seat.now.me _ _ hand k.1 (some_has _ _ c.requires.named) told.0 in
    (c.args.stamp.turn, m.0, m.1, m.2, m.3, m.4)

pub returns-clause-done : goal.returns-clause-done
returns-clause-done g c =
    let k = c.requires.called in let a = c.act-answer.ensures in
    let same = same_hand _ _ _ _ k.2 c.exchange-hand.ensures.2 c.in-Some.is in
    let hand = put_hand _ _ _ _ _ _ k.2 c.exchange-hand.ensures.3 c.exchange-empty.ensures.3 in
    let told = acted g.O.SeqObject.journal g.O.SeqObject.settings g.O.SeqObject.stamp_of g.O.SeqObject.reply_of g.O.SeqObject.added_by c.in-Some.object c.act-answer.new.self c.args.seat.now.me.0 c.args.stamp c.args.request c.act-answer.result
    (ap g.O.SeqObject.journal same ∙ k.3) (k.4 ∙ ap (λ o. Some (g.O.SeqObject.settings o)) (sym same)) a.settings a.reply a.added a.unchanged g.met.O.SeqObject.stamped c.requires.named in
    let last = served g.O.SeqObject.journal c.args.seat.now.me _ c.pass_on.new.seat.me _ hand c.pass_on.ensures.passed in
    (told.1 c.pass_on.new.seat.me.0 (ap (λ m. m.0) last), ap (λ m. m.1) last)
