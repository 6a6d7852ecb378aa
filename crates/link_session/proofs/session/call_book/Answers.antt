use Rattle.link_session.proofs.Calling.{wrote_call, left_call}
use Rattle.link_session.proofs.session.call_book.Goals as goal

pub returns-in-Ok-Write-clause-step : goal.returns-in-Ok-Write-clause-step
returns-in-Ok-Write-clause-step g c =
    let replies = rw c.in-Ok-Write.field-0-is at c.in-Ok-Write.ensures.want in
    let writing = rw (c.as_slice.ensures, c.served-served.ensures) at c.write_bytes.ensures in
    wrote_call _ (g.B.Caller.goes c.args.caller.now) c.args.call _ _ c.args.talk.now c.answer.new.self (g.B.Caller.seen c.args.own.now) (g.B.Caller.seen c.call-receipt.new.own) c.call-receipt.result
    c.in-Ok-Write.bytes c.write_bytes.result c.requires.waits c.call-receipt.ensures.calls c.call-receipt.ensures.goes replies writing

pub returns-in-Ok-Leave-clause-step : goal.returns-in-Ok-Leave-clause-step
returns-in-Ok-Leave-clause-step g c =
    let replies = rw c.in-Ok-Leave.field-0-is at c.in-Ok-Leave.ensures.want in
    left_call _ (g.B.Caller.goes c.args.caller.now) c.args.call _ c.args.talk.now c.answer.new.self (g.B.Caller.seen c.args.own.now) (g.B.Caller.seen c.call-receipt.new.own) c.call-receipt.result
    c.in-Ok-Leave.end c.requires.waits c.call-receipt.ensures.calls c.call-receipt.ensures.goes replies
