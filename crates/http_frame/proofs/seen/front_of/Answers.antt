use Rattle.std.proofs.Common.{◌≤◌, length, sym, arith}
use Rattle.std.proofs.lemmas.List.{length-take-le}
use Rattle.http_frame.proofs.Seeing.{short_front}
use Rattle.http_frame.proofs.seen.front_of.Goals as goal

pub returns-then-bytes-le-MOST_HEAD : goal.returns-then-bytes-le-MOST_HEAD
returns-then-bytes-le-MOST_HEAD c = sym (short_front c.args.bytes.now c.if-bytes-le-MOST_HEAD.true)

pub slice_bounds-result-end : goal.slice_bounds-result-end
slice_bounds-result-end c =
    let le : 16384 ≤ length c.args.bytes.now = omega arith in sym (length-take-le 16384 c.args.bytes.now le)
