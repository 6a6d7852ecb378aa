use Rattle.std.proofs.Common.{inl, inr, refl, subst}
use Rattle.book_passes.specs.Lessons.{caller_of}
use Rattle.check_workers.specs.WorkerTurns.{IsFoundFor}
use Rattle.check_workers.proofs.Turns.{asked_teaches, brought_teaches, failed_teaches, teaches_trans, finds_none, is_told, may_bring}
use Rattle.check_workers.proofs.work.work_one.Goals as goal

pub returns-in_err-receipt-clause-teaches : goal.returns-in_err-receipt-clause-teaches
returns-in_err-receipt-clause-teaches g c = failed_teaches c.args.pass.now c.call.new.pass c.in_err-receipt.field-0.0 c.in_err-receipt.ensures.same c.in_err-receipt.ensures.failed

pub returns-in_default-clause-teaches : goal.returns-in_default-clause-teaches
returns-in_default-clause-teaches g c =
    asked_teaches c.args.turn.now.settings c.args.seat c.in_ok-receipt.receipt.turn c.in_ok-receipt.receipt.reply c.args.pass.now c.call.new.pass c.in_ok-receipt.ensures.same c.in_ok-receipt.ensures.answered

pub returns-in_default-clause-worked : goal.returns-in_default-clause-worked
returns-in_default-clause-worked g c =
    let r = c.in_ok-receipt.receipt in
    inl (
      record {
        turn = r.turn;
        reply = r.reply;
        asked = c.in_ok-receipt.ensures.answered;
        refused = finds_none c.args.turn.now.settings c.args.seat r.turn r.reply c.args.pass.now c.call.new.pass c.in_ok-receipt.ensures.answered
            (λ order is. c.in_default.not-Work order is);
      },
      refl,
    )

pub returns-in_default-set_of-clause-teaches : goal.returns-in_default-set_of-clause-teaches
returns-in_default-set_of-clause-teaches g c =
    asked_teaches c.args.turn.now.settings c.args.seat c.in_ok-receipt.receipt.turn c.in_ok-receipt.receipt.reply c.args.pass.now c.call.new.pass c.in_ok-receipt.ensures.same c.in_ok-receipt.ensures.answered

pub call-requires-2-clause-legal : goal.call-requires-2-clause-legal
call-requires-2-clause-legal g c =
    let r = c.in_ok-receipt.receipt in
    let found : IsFoundFor c.in-Work.order c.in-Ok.set = subst (λ o. IsFoundFor o c.in-Ok.set) c.in-Work.order-is c.in-Ok.ensures.set in
    may_bring c.args.turn.now.settings c.args.seat r.turn r.reply c.in-Work.order c.in-Ok.set c.args.pass.now c.call.new.pass c.in_ok-receipt.ensures.answered
    c.in-Work.is found c.in-Ok.ensures.bucket

pub returns-in_err-receipt-2-clause-teaches : goal.returns-in_err-receipt-2-clause-teaches
returns-in_err-receipt-2-clause-teaches g c =
    let r = c.in_ok-receipt.receipt in
    teaches_trans (caller_of c.args.pass.now) (caller_of c.call.new.pass) (caller_of c.call-2.new.pass)
    (asked_teaches c.args.turn.now.settings c.args.seat r.turn r.reply c.args.pass.now c.call.new.pass c.in_ok-receipt.ensures.same c.in_ok-receipt.ensures.answered)
    (failed_teaches c.call.new.pass c.call-2.new.pass c.in_err-receipt-2.field-0.0 c.in_err-receipt-2.ensures.same c.in_err-receipt-2.ensures.failed)

pub told_by-requires : goal.told_by-requires
told_by-requires g c =
    let r = c.in_ok-receipt-2.receipt in
    is_told c.args.turn.now.settings r.turn r.reply c.in-Ok.set c.call.new.pass c.call-2.new.pass c.in_ok-receipt-2.ensures.answered

pub returns-clause-teaches : goal.returns-clause-teaches
returns-clause-teaches g c =
    let r = c.in_ok-receipt.receipt in
    let s = c.in_ok-receipt-2.receipt in
    teaches_trans (caller_of c.args.pass.now) (caller_of c.call.new.pass) (caller_of c.call-2.new.pass)
    (asked_teaches c.args.turn.now.settings c.args.seat r.turn r.reply c.args.pass.now c.call.new.pass c.in_ok-receipt.ensures.same c.in_ok-receipt.ensures.answered)
    (brought_teaches c.args.turn.now.settings c.in-Ok.set s.turn s.reply c.call.new.pass c.call-2.new.pass c.in_ok-receipt-2.ensures.same c.in_ok-receipt-2.ensures.answered)

pub returns-clause-worked : goal.returns-clause-worked
returns-clause-worked g c =
    let r = c.in_ok-receipt.receipt in
    let s = c.in_ok-receipt-2.receipt in
    let found : IsFoundFor c.in-Work.order c.in-Ok.set = subst (λ o. IsFoundFor o c.in-Ok.set) c.in-Work.order-is c.in-Ok.ensures.set in
    inr (record {
      between = c.call.new.pass;
      turn = r.turn;
      reply = r.reply;
      order = c.in-Work.order;
      asked = c.in_ok-receipt.ensures.answered;
      given = c.in-Work.is;
      set = c.in-Ok.set;
      found = found;
      later = s.turn;
      answer = s.reply;
      brought = c.in_ok-receipt-2.ensures.answered;
      told = c.told_by.ensures;
    })
