use Rattle.std.proofs.Common.{ℕ, List, Some, ap, ◌∙◌, arith}
use Rattle.p21_table.proofs.FirstBytesThere.{words_there, words_long, no_words_there, one_order, one_within}
use Rattle.p21_table.proofs.first_byte.words_by_byte.Goals as goal

pub returns-then-byte-ne39 : goal.returns-then-byte-ne39
returns-then-byte-ne39 c = λ v s. no_words_there c.args.bytes.now c.args.at c.in_ok-byte.byte v c.in_ok-byte.ensures c.if-byte-ne39.true s

pub slice_bounds-inner-start : goal.slice_bounds-inner-start
slice_bounds-inner-start c = let lt = one_order c.args.bytes.now c.args.at c.in-Some.end c.in-Some.ensures in omega (arith, lt)

pub slice_bounds-inner-end : goal.slice_bounds-inner-end
slice_bounds-inner-end c = one_within c.args.bytes.now c.args.at c.in-Some.end c.in-Some.ensures

pub inner-requires : goal.inner-requires
inner-requires c = words_long c.args.bytes.now c.args.at c.in_ok-byte.byte c.in-Some.end c.in-Some.ensures c.in_ok-byte.ensures c.if-byte-ne39.false

pub returns-in-Some : goal.returns-in-Some
returns-in-Some c = λ v s.
    ap (λ (bs : List ℕ). Some bs) c.inner.ensures ∙ words_there c.args.bytes.now c.args.at c.in_ok-byte.byte c.in-Some.end v c.in-Some.ensures c.in_ok-byte.ensures c.if-byte-ne39.false s
