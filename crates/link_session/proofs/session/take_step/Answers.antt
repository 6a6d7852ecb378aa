use Rattle.std.proofs.Common.{refl, inl, inr, ap}
use Rattle.bim_session.specs.declared.end.SessionEnd.TheVariants as end
use Rattle.bim_session.specs.declared.want.Want.TheVariants.{More, Write, Call, Leave}
use Rattle.link_session.specs.declared.session.AfterStep.TheVariants.{End}
use Rattle.link_session.proofs.session.take_step.Goals as goal

pub returns-in-Ok-More-clause-step : goal.returns-in-Ok-More-clause-step
returns-in-Ok-More-clause-step g c =
    let wants = rw c.in-Ok-More.field-0-is at c.in-Ok-More.ensures.want in
    let own = rw c.in-Ok-More.field-0-is at c.in-Ok-More.ensures.own in
    inl (More, c.next.new.self, wants, own, (c.read_more.ensures, refl, refl))

pub returns-in-Ok-Write-clause-step : goal.returns-in-Ok-Write-clause-step
returns-in-Ok-Write-clause-step g c =
    let wants = rw c.in-Ok-Write.field-0-is at c.in-Ok-Write.ensures.want in
    let own = rw c.in-Ok-Write.field-0-is at c.in-Ok-Write.ensures.own in
    let writing = rw (c.as_slice.ensures, c.served-served.ensures) at c.write_bytes.ensures in
    inl (Write c.in-Ok-Write.bytes, c.next.new.self, wants, own, (writing, refl, refl, refl))

pub returns-in-Ok-Call-clause-step : goal.returns-in-Ok-Call-clause-step
returns-in-Ok-Call-clause-step g c =
    let wants = rw c.in-Ok-Call.field-0-is at c.in-Ok-Call.ensures.want in
    let own = rw c.in-Ok-Call.field-0-is at c.in-Ok-Call.ensures.own in
    inl (Call c.in-Ok-Call.call, c.next.new.self, wants, own, (c.call_book.ensures.step, refl))

pub returns-in-Ok-Leave-clause-step : goal.returns-in-Ok-Leave-clause-step
returns-in-Ok-Leave-clause-step g c =
    let wants = rw c.in-Ok-Leave.field-0-is at c.in-Ok-Leave.ensures.want in
    let own = rw c.in-Ok-Leave.field-0-is at c.in-Ok-Leave.ensures.own in
    inl (Leave c.in-Ok-Leave.end, c.next.new.self, wants, own, (refl, refl, refl, refl))

pub returns-in-Err-clause-step : goal.returns-in-Err-clause-step
returns-in-Err-clause-step g c =
    inr (c.in-Err.ensures.lacks, ap (λ n. End (end.Memory n)) c.served-served.ensures, refl, refl, refl)

pub call_book-requires-clause-none : goal.call_book-requires-clause-none
call_book-requires-clause-none g c =
    let callable = rw c.in-Ok-Call.field-0-is at c.in-Ok-Call.ensures.callable in
    callable
