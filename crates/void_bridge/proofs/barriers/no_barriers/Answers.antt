use Rattle.std.proofs.Common.{sym, subst, [], List, map}
use Rattle.void_bridge.specs.declared.barriers.Edge.{Edge}
use Rattle.void_bridge.specs.declared.barriers.Frame.{Frame}
use Rattle.void_bridge.specs.inner.Barriers.{as_segment, AreFramed}
use Rattle.void_bridge.proofs.FramedEdges.{framed_none}
use Rattle.void_bridge.proofs.barriers.no_barriers.Goals as goal

pub returns-clause-framed : goal.returns-clause-framed
returns-clause-framed c =
    subst (λ (fs : List Frame). AreFramed fs (map as_segment c.new.result.items)) (sym c.new-2.ensures.items)
    (subst (λ (es : List Edge). AreFramed [] (map as_segment es)) (sym c.new.ensures.items) framed_none)
