use Rattle.std.proofs.Common.{option_copied, arith}
use Rattle.faceset.proofs.Read.{loop_read}
use Rattle.faceset.proofs.faces.loop_of.Goals as goal

pub returns : goal.returns
returns c =
    let count = c.len.ensures.count in
    let three = c.if-len-lt3.false in
    loop_read (option_copied c.args.numbers) c.args.points.now c.args.indexes.now c.corners_of.result (omega (arith, count, three)) c.corners_of.ensures
