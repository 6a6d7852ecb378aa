use Rattle.std.proofs.Common.{◌≡◌, drop, map}
use Rattle.std.specs.List.{list_any}
use Rattle.httparse.specs.Spans.{header_bytes}
use Rattle.http_frame.specs.inner.Facts.{has_other_value}
use Rattle.http_frame.proofs.facts.any_other_value.Given as goal

abbrev pub invariant-loop-header : goal.invariant-loop-header
invariant-loop-header l =
    list_any (has_other_value l.wanted l.option) (map (header_bytes l.block) l.headers)
    ≡ list_any (has_other_value l.wanted l.option) (map (header_bytes l.block) (drop l.header-index l.headers))
