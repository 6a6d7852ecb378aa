use Rattle.std.proofs.Common.{◌≡◌, ◌++◌, false, drop}
use Rattle.odata_filter.specs.FilterLiterals.{unquoted}
use Rattle.odata_filter.proofs.filter_literals.unquoted.Given as goal

abbrev pub invariant-loop-byte : goal.invariant-loop-byte
invariant-loop-byte l = l.made.items ++ unquoted l.after (drop l.byte-index l.inside) ≡ unquoted false l.inside
