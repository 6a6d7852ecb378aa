use Rattle.std.proofs.Common.{◌≡◌, arith}
use Rattle.bim_text.proofs.Rooms.{room_small}
use Rattle.bim_text.proofs.ShortNumbers.{bare_at, pointed_at}
use Rattle.bim_text.proofs.short.short_at.Goals as goal

pub returns-then-ends_there : goal.returns-then-ends_there
returns-then-ends_there c =
    let sign = c.minus_there-sign.ensures in
    let whole = c.run_from-whole.ensures in
    bare_at c.args.bytes.now c.args.from c.minus_there-sign.result.end c.run_from-whole.result.end c.run_from-whole.result.value c.minus_there-sign.result.negative sign.sign sign.near whole.value whole.end
    c.if-ends_there.ensures c.if-whole-sign.false whole.few (room_small _ _ whole.room)

pub returns : goal.returns
returns c =
    let sign = c.minus_there-sign.ensures in
    let whole = c.run_from-whole.ensures in
    let limit = c.fraction_limit.ensures in
    let fraction = c.run_from-fraction.ensures in
    pointed_at c.args.bytes.now c.args.from c.minus_there-sign.result.end c.run_from-whole.result.end c.run_from-fraction.result.end c.run_from-whole.result.value c.run_from-fraction.result.value c.minus_there-sign.result.negative
    sign.sign sign.near whole.value whole.end c.if-whole-bytes.false c.if-bytes-whole-ne46.false fraction.value fraction.end c.if-not-ends_there.ensures c.if-whole-sign.false whole.few (omega (arith, limit.few, fraction.few)) (room_small _ _ fraction.room)
