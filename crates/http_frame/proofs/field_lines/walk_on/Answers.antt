use Rattle.std.proofs.Common.{sym, ◌∙◌}
use Rattle.http_frame.proofs.Watching.{walked_out}
use Rattle.http_frame.proofs.field_lines.walk_on.Goals as goal

pub returns-then-not-is_open : goal.returns-then-not-is_open
returns-then-not-is_open c =
    walked_out c.args.spot c.loop-b.here c.spot_behind-here.result c.args.bytes.now c.loop-b.b-index c.loop-b-test.true c.loop-b.invariant c.spot_behind-here.ensures (sym c.is_open.ensures ∙ c.if-not-is_open.true)
