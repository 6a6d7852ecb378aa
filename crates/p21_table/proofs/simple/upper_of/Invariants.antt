use Rattle.std.proofs.Common.{◌≡◌, ◌++◌, drop, map}
use Rattle.std.specs.Char.{to_ascii_uppercase}
use Rattle.p21_table.proofs.simple.upper_of.Given as goal

abbrev pub invariant-loop-byte : goal.invariant-loop-byte
invariant-loop-byte l = l.upper.items ++ map to_ascii_uppercase (drop l.byte-index l.bytes) ≡ map to_ascii_uppercase l.bytes
