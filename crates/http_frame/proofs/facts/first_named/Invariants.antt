use Rattle.std.proofs.Common.{◌≡◌, drop}
use Rattle.http_frame.specs.inner.Facts.{values_at}
use Rattle.http_frame.proofs.facts.first_named.Given as goal

abbrev pub invariant-loop-header : goal.invariant-loop-header
invariant-loop-header l = values_at l.wanted l.block l.headers ≡ values_at l.wanted l.block (drop l.header-index l.headers)
