use Rattle.bim_io.specs.StreamViews.{outside}
use Rattle.link_session.specs.Callers.{CallerLaws}
use Rattle.link_session.proofs.SoFar.{SoFar, service_of}
use Rattle.link_session.proofs.session.run_session.Given as goal

abbrev pub invariant-steps : goal.invariant-steps
invariant-steps g l = record {
  so_far : (laws : CallerLaws (g.B.Caller.buckets l.fn.caller) (g.B.Caller.goes l.fn.caller))
      → SoFar (service_of (g.B.Caller.settings l.fn.caller) (g.B.Caller.buckets l.fn.caller) (g.B.Caller.goes l.fn.caller) laws) (g.B.Caller.seen l.initial.own)
      (outside (g.S.Source.seen l.initial.source) (g.K.Sink.seen l.initial.sink) (g.C.Clock.seen l.initial.clock))
      (outside (g.S.Source.seen l.source) (g.K.Sink.seen l.sink) (g.C.Clock.seen l.clock)) l.talk (g.B.Caller.seen l.own);
  fits : g.B.Caller.fits l.fn.caller l.own;
}
