use Rattle.link_session.proofs.SoFar.{service_of}
use Rattle.link_session.proofs.Ending.{nothing_done}
use Rattle.link_session.proofs.Running.{starts, again, ends, leaves, stops}
use Rattle.link_session.proofs.session.run_session.Goals as goal

pub returns-in_default-clause-serves : goal.returns-in_default-clause-serves
returns-in_default-clause-serves g c =
    nothing_done (service_of (g.B.Caller.settings c.args.caller.now) (g.B.Caller.buckets c.args.caller.now) (g.B.Caller.goes c.args.caller.now) c.requires.laws)
    (g.B.Caller.seen c.args.own.now) _ c.requires.stays (g.met.S.Source.at_end c.args.source.now)

pub steps-init : goal.steps-init
steps-init g c = record {
  so_far = λ laws.
      starts (service_of (g.B.Caller.settings c.args.caller.now) (g.B.Caller.buckets c.args.caller.now) (g.B.Caller.goes c.args.caller.now) laws) (g.B.Caller.seen c.args.own.now) _
      c.in-Ok.talk c.last.result c.requires.stays c.in-Ok.ensures.stands c.in-Ok.ensures.fresh c.in-Ok.ensures.none c.last.ensures;
  fits = c.requires.fits;
}

pub steps-preserved : goal.steps-preserved
steps-preserved g c = record {
  so_far = λ laws.
      again (service_of (g.B.Caller.settings c.args.caller.now) (g.B.Caller.buckets c.args.caller.now) (g.B.Caller.goes c.args.caller.now) laws) (g.B.Caller.seen c.args.own.now) _ _ _
      c.steps.talk c.step_and_work.new.talk (g.B.Caller.seen c.steps.own) (g.B.Caller.seen c.step_and_work.new.own) c.step_and_work.result (c.steps.invariant.so_far laws)
      c.step_and_work.ensures.step (g.met.S.Source.at_end c.step_and_work.new.source) c.in-Again.is;
  fits = c.step_and_work.ensures.fits;
}

pub returns-in-End-clause-serves : goal.returns-in-End-clause-serves
returns-in-End-clause-serves g c =
    ends (service_of (g.B.Caller.settings c.args.caller.now) (g.B.Caller.buckets c.args.caller.now) (g.B.Caller.goes c.args.caller.now) c.requires.laws) (g.B.Caller.seen c.args.own.now) _ _ _
    c.steps.talk c.step_and_work.new.talk (g.B.Caller.seen c.steps.own) (g.B.Caller.seen c.step_and_work.new.own) c.step_and_work.result c.in-End.end
    (c.steps.invariant.so_far c.requires.laws) c.step_and_work.ensures.step (g.met.S.Source.at_end c.step_and_work.new.source) c.in-End.is

pub returns-in-Some-clause-serves : goal.returns-in-Some-clause-serves
returns-in-Some-clause-serves g c =
    leaves (service_of (g.B.Caller.settings c.args.caller.now) (g.B.Caller.buckets c.args.caller.now) (g.B.Caller.goes c.args.caller.now) c.requires.laws) (g.B.Caller.seen c.args.own.now) _ _
    c.steps.talk (g.B.Caller.seen c.steps.own) c.leaving.result c.in-Some.end (c.steps.invariant.so_far c.requires.laws) c.leaving.ensures.value
    c.in-Some.is c.leaving.ensures.own (g.met.S.Source.at_end c.steps.source)

pub returns-clause-serves : goal.returns-clause-serves
returns-clause-serves g c =
    stops (service_of (g.B.Caller.settings c.args.caller.now) (g.B.Caller.buckets c.args.caller.now) (g.B.Caller.goes c.args.caller.now) c.requires.laws) (g.B.Caller.seen c.args.own.now) _ _
    c.steps.talk (g.B.Caller.seen c.steps.own) c.leaving.result c.served.result (c.steps.invariant.so_far c.requires.laws) c.leaving.ensures.value
    c.in-None.is (g.met.S.Source.at_end c.steps.source) c.served.ensures

pub step_and_work-requires-clause-idle : goal.step_and_work-requires-clause-idle
step_and_work-requires-clause-idle g c = let so = c.steps.invariant.so_far c.requires.laws in so.idle
