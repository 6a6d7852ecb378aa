use Rattle.std.proofs.Common.{rules}
use Rattle.faceset.proofs.Decimals.{none_in_value}
use Rattle.faceset.proofs.indexes.place_of.Goals as goal

pub returns-in-Some-clause-none : goal.returns-in-Some-clause-none
returns-in-Some-clause-none c = none_in_value c.args.value.now c.in-Some.bytes.now c.args.count c.place_among.result (search rules) c.place_among.ensures.none
