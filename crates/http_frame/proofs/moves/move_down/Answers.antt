use Rattle.std.proofs.Common.{◌≡◌, ◌+◌, ◌-◌, ◌++◌, length, take, drop, sym, ap, ◌∙◌, arith}
use Rattle.std.proofs.lemmas.Simd.{take_more_put_chunk, length-chunk, length-put_chunk}
use lib.Lanes.{chunk}
use Rattle.http_frame.proofs.MovedDown.{drop_put, moved_more, rest_more}
use Rattle.http_frame.proofs.moves.move_down.Goals as goal

pub loop-done-preserved : goal.loop-done-preserved
loop-done-preserved c =
    let a = c.args in
    let l = c.loop-done in
    let v = chunk (a.from + l.done) 32 l.bytes in
    let long : length v ≡ 32 = length-chunk (a.from + l.done) 32 l.bytes (omega arith) in
    record {
      small = omega arith;
      front = moved_more a.bytes.now l.bytes _ a.from a.to l.done 32 l.invariant.front l.invariant.rest (take_more_put_chunk (a.to + l.done) l.bytes v ((a.to + l.done) + 32) (omega arith) (omega arith));
      rest = rest_more a.bytes.now l.bytes _ a.from l.done 32 l.invariant.rest (drop_put (a.to + l.done) l.bytes v ((a.from + l.done) + 32) (omega arith));
      len = length-put_chunk (a.to + l.done) l.bytes v ∙ l.invariant.len;
    }

pub returns-clause-front : goal.returns-clause-front
returns-clause-front c =
    let a = c.args in
    let l = c.loop-done in
    let all : l.done + (a.count - l.done) ≡ a.count = omega arith in
    ap (λ k. take (a.to + k) c.move_each.new.bytes) (sym all)
    ∙ moved_more a.bytes.now l.bytes c.move_each.new.bytes a.from a.to l.done (a.count - l.done) l.invariant.front l.invariant.rest c.move_each.ensures.front
    ∙ ap (λ k. take a.to a.bytes.now ++ take k (drop a.from a.bytes.now)) all

pub returns-clause-rest : goal.returns-clause-rest
returns-clause-rest c =
    let a = c.args in
    let l = c.loop-done in
    let all : l.done + (a.count - l.done) ≡ a.count = omega arith in
    ap (λ k. drop (a.from + k) c.move_each.new.bytes) (sym all)
    ∙ rest_more a.bytes.now l.bytes c.move_each.new.bytes a.from l.done (a.count - l.done) l.invariant.rest c.move_each.ensures.rest
    ∙ ap (λ k. drop (a.from + k) a.bytes.now) all
