use Rattle.std.proofs.Common.{inr, ◌≤ℤ◌, ◌<ℤ◌, pos, arith}
use Rattle.std.proofs.lemmas.Int.{ints}
use Rattle.ifc_schema.proofs.Wholes.{is_whole}
use Rattle.ifc_schema.proofs.words.is_whole_decimal.Goals as goal

pub returns-then-number-lt0 : goal.returns-then-number-lt0
returns-then-number-lt0 c = let below : c.in-Some.number.exp <ℤ pos 0 = omega (arith, ints) in inr (c.in-Some.number, c.in-Some.ensures.value, below)

pub returns-else-number-lt0 : goal.returns-else-number-lt0
returns-else-number-lt0 c =
    let above : pos 0 ≤ℤ c.in-Some.number.exp = omega (arith, ints) in
    is_whole c.args.bytes.now c.in-Some.number c.in-Some.ensures.value above
