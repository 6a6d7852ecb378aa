use Rattle.std.proofs.Common.{◌∙◌, sym, ◌<◌, length, arith}
use Rattle.void_bridge.specs.inner.Barriers.{as_segment}
use Rattle.void_bridge.proofs.Passed.{blocked_at}
use Rattle.void_bridge.proofs.blockers.is_blocked_at.Goals as goal

pub returns-then-at-len : goal.returns-then-at-len
returns-then-at-len c = λ t.
    let edges = c.args.barriers.now.edges.items in
    let h : c.args.at < length edges = omega (arith, c.len.ensures, c.if-at-len.true) in
    blocked_at c.args.view (as_segment c.args.bridge) edges c.args.at c.index.result.now h c.index.ensures (sym c.collide.ensures ∙ t)
