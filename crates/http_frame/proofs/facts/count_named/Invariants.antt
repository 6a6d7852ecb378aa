use Rattle.std.proofs.Common.{◌≡◌, ◌≤◌, ◌+◌, length, map, drop}
use Rattle.httparse.specs.Spans.{header_bytes}
use Rattle.http1.specs.Fields.{values_named}
use Rattle.http_frame.proofs.facts.count_named.Given as goal

abbrev pub invariant-loop-header : goal.invariant-loop-header
invariant-loop-header l = record {
  is : l.count + length (values_named l.wanted (map (header_bytes l.block) (drop l.header-index l.headers))) ≡ length (values_named l.wanted (map (header_bytes l.block) l.headers));
  small : l.count ≤ l.header-index;
}
