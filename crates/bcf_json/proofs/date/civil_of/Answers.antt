use Rattle.std.proofs.Common.{arith}
use Rattle.std.proofs.lemmas.Int.{ints}
use Rattle.bcf_json.proofs.date.civil_of.Goals as goal

pub returns : goal.returns
returns c =
    let f = c.to_datetime.ensures in
    let v = rw c.unwrap-instant.ensures at c.from_second.ensures.value in
    omega (arith, ints)
