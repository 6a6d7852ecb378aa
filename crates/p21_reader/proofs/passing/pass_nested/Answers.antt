use Rattle.std.proofs.Common.{arith, sym, ap}
use Rattle.p21_reader.specs.declared.passing.Level.{Level}
use Rattle.p21_values.specs.Lexemes.{lexeme_of, class_of}
use Rattle.p21_reader.proofs.Steps.{residual}
use Rattle.p21_reader.proofs.Midway.{behind, taken, taken_all, taken_none, midway_refused}
use Rattle.p21_reader.proofs.RowLemmas.{taken_row, taken_more, fit_row, inside_open}
use Rattle.p21_reader.proofs.passing.pass_nested.Goals as goal

pub returns-in_default-clause-passes : goal.returns-in_default-clause-passes
returns-in_default-clause-passes c =
    let l = c.loop-next in
    let i = l.invariant in
    let bytes = c.args.bytes.now in
    rw c.refused.ensures
    (midway_refused c.args.most l.level.top l.level.depth l.typed bytes c.args.first.token l.piece.token c.args.count.now l.count i.midway i.nested
    (c.in_default.ensures.steps (class_of (lexeme_of bytes l.piece.token)) (sym i.piece.seen)))

pub pass_row-row-requires-clause-open : goal.pass_row-row-requires-clause-open
pass_row-row-requires-clause-open c = let n = c.in-Some.next in inside_open n.top n.depth c.after.new.typed c.in-Some.ensures.fits

pub returns-then-is_over-clause-passes : goal.returns-then-is_over-clause-passes
returns-then-is_over-clause-passes c =
    let l = c.loop-next in
    let i = l.invariant in
    let n = c.in-Some.next in
    let p = c.pass_row-row in
    let m = c.pass_more-reached in
    let bytes = c.args.bytes.now in
    let one = taken _ _ n.top _ n.depth _ c.after.new.typed _ _ _ _ _ c.counted.result _ i.midway (c.in-Some.ensures.steps (class_of (lexeme_of bytes l.piece.token)) (sym i.piece.seen)) i.piece.seen c.counted.ensures in
    let row = taken_row c.args.most n c.after.new.typed bytes c.args.first.token l.piece.token.end c.args.count.now c.counted.result p.new.count p.result one p.ensures.row in
    let more = taken_more c.args.most c.after.new.typed bytes c.args.first.token c.args.count.now p.new.count m.new.count p.result m.result row m.ensures.more in
    taken_all c.args.most m.result.level.top m.result.level.depth c.after.new.typed bytes c.args.first.token m.result.end c.args.count.now m.new.count more (c.is_over.ensures.over c.if-is_over.true)

pub returns-in_err-piece-clause-passes : goal.returns-in_err-piece-clause-passes
returns-in_err-piece-clause-passes c =
    let l = c.loop-next in
    let i = l.invariant in
    let n = c.in-Some.next in
    let p = c.pass_row-row in
    let m = c.pass_more-reached in
    let bytes = c.args.bytes.now in
    let one = taken _ _ n.top _ n.depth _ c.after.new.typed _ _ _ _ _ c.counted.result _ i.midway (c.in-Some.ensures.steps (class_of (lexeme_of bytes l.piece.token)) (sym i.piece.seen)) i.piece.seen c.counted.ensures in
    let row = taken_row c.args.most n c.after.new.typed bytes c.args.first.token l.piece.token.end c.args.count.now c.counted.result p.new.count p.result one p.ensures.row in
    let more = taken_more c.args.most c.after.new.typed bytes c.args.first.token c.args.count.now p.new.count m.new.count p.result m.result row m.ensures.more in
    rw (residual _ _ c.from_residual.ensures.1)
    (taken_none c.args.most m.result.level.top m.result.level.depth c.after.new.typed bytes c.args.first.token m.result.end c.args.count.now m.new.count c.in_err-piece.field-0.0 more
    (c.is_over.ensures.going c.if-is_over.false) c.in_err-piece.ensures.fault)

pub loop-next-preserved : goal.loop-next-preserved
loop-next-preserved c =
    let l = c.loop-next in
    let i = l.invariant in
    let n = c.in-Some.next in
    let p = c.pass_row-row in
    let m = c.pass_more-reached in
    let bytes = c.args.bytes.now in
    let one = taken _ _ n.top _ n.depth _ c.after.new.typed _ _ _ _ _ c.counted.result _ i.midway (c.in-Some.ensures.steps (class_of (lexeme_of bytes l.piece.token)) (sym i.piece.seen)) i.piece.seen c.counted.ensures in
    let row = taken_row c.args.most n c.after.new.typed bytes c.args.first.token l.piece.token.end c.args.count.now c.counted.result p.new.count p.result one p.ensures.row in
    let more = taken_more c.args.most c.after.new.typed bytes c.args.first.token c.args.count.now p.new.count m.new.count p.result m.result row m.ensures.more in
    let deep = ap (λ (x : Level). x.depth) m.ensures.level in
    let q = c.in_ok-piece.ensures in
    record {
      piece = q.piece;
      on = omega (arith, i.on, p.ensures.on, m.ensures.on, q.on, q.piece.some);
      room = c.in-Some.ensures.room;
      depth = omega (arith, deep, p.ensures.depth, c.in-Some.ensures.depth);
      fit = rw m.ensures.level (fit_row n c.after.new.typed bytes l.piece.token.end c.counted.result p.new.count p.result c.in-Some.ensures.fits p.ensures.row);
      nested = c.is_over.ensures.going c.if-is_over.false;
      midway = behind m.result.end more q.cuts;
    }
