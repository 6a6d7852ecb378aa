use Rattle.bim_io.proofs.Calls.{clock_one}
use Rattle.bim_session.specs.Talking.{TalkState}
use Rattle.bim_session.proofs.Talks.{none_of, own_leaving, wants_leave, wants_rest, wants_continue, wants_fault, wants_taken, stops_none, stops_none_on, stops_taken_on}
use Rattle.bim_session.proofs.talk.Talk.step.Goals as goal

pub returns-in-Some-clause-own : goal.returns-in-Some-clause-own
returns-in-Some-clause-own g c = own_leaving c.self.inside.leaving c.in-Some.end c.self.invariant.2 c.in-Some.is

pub returns-in-Some-clause-want : goal.returns-in-Some-clause-want
returns-in-Some-clause-want g c =
    let own : TalkState = record {
      framer = c.self.inside.framer;
      ended = c.self.inside.ended;
      served = c.self.inside.served;
      waits = c.self.inside.waits;
      notes = c.self.inside.notes;
      leaving = c.self.inside.leaving;
    } in
    rw (← c.self.view_is) (wants_leave own c.in-Some.end _ c.in-Some.is)

pub returns-in-Ok-More-clause-want : goal.returns-in-Ok-More-clause-want
returns-in-Ok-More-clause-want g c =
    let steps = rw c.in-Ok-More.field-0-is at c.in-Ok-More.ensures in
    let here = none_of c.self.inside.leaving c.in_default.not-Some in
    rw (← c.self.view_is) (wants_rest _ c.next.new.self c.at_rest.result _ here steps c.at_rest.ensures.want)

pub returns-in-Ok-Continue-clause-want : goal.returns-in-Ok-Continue-clause-want
returns-in-Ok-Continue-clause-want g c =
    let steps = rw c.in-Ok-Continue.field-0-is at c.in-Ok-Continue.ensures in
    let here = none_of c.self.inside.leaving c.in_default.not-Some in
    rw (← c.self.view_is) (wants_continue _ c.next.new.self c.go_on.result _ here steps c.go_on.ensures.want)

pub returns-in-Ok-Continue-clause-short : goal.returns-in-Ok-Continue-clause-short
returns-in-Ok-Continue-clause-short g c = stops_none_on c.go_on.result _ _ _

pub returns-in-Ok-Request-clause-want : goal.returns-in-Ok-Request-clause-want
returns-in-Ok-Request-clause-want g c =
    let steps = rw c.in-Ok-Request.field-0-is at c.in-Ok-Request.ensures in
    let here = none_of c.self.inside.leaving c.in_default.not-Some in
    let gives = clock_one (g.C.Clock.seen c.args.clock.now) (g.C.Clock.seen c.now-moment.new.self) c.now-moment.result c.now-moment.ensures.bound c.now-moment.ensures.told c.now-moment.ensures.same c.now-moment.ensures.gave in
    rw (← c.self.view_is) (wants_taken _ c.take.new.self c.next.new.self c.now-moment.result c.in-Ok-Request.request c.take.result _ _ here steps gives c.take.ensures.want)

pub returns-in-Ok-Request-clause-short : goal.returns-in-Ok-Request-clause-short
returns-in-Ok-Request-clause-short g c =
    let steps = rw c.in-Ok-Request.field-0-is at c.in-Ok-Request.ensures in
    let gives = clock_one (g.C.Clock.seen c.args.clock.now) (g.C.Clock.seen c.now-moment.new.self) c.now-moment.result c.now-moment.ensures.bound c.now-moment.ensures.told c.now-moment.ensures.same c.now-moment.ensures.gave in
    rw (← c.self.view_is) (stops_taken_on c.take.result _ c.take.new.self c.next.new.self c.now-moment.result c.in-Ok-Request.request _ _ steps gives c.take.ensures.err)

pub returns-in-Err-Fault-clause-want : goal.returns-in-Err-Fault-clause-want
returns-in-Err-Fault-clause-want g c =
    let steps = rw c.in-Err-Fault.field-0-is at c.in-Err-Fault.ensures in
    let here = none_of c.self.inside.leaving c.in_default.not-Some in
    rw (← c.self.view_is) (wants_fault _ c.refuse.new.self c.next.new.self c.in-Err-Fault.fault c.refuse.result _ here steps c.refuse.ensures.want c.refuse.ensures.ok)

pub returns-in-Err-Fault-clause-short : goal.returns-in-Err-Fault-clause-short
returns-in-Err-Fault-clause-short g c = stops_none_on c.refuse.result _ _ _

pub returns-in-Err-Memory-clause-short : goal.returns-in-Err-Memory-clause-short
returns-in-Err-Memory-clause-short g c = stops_none _ _ _
