use Rattle.std.proofs.Common.{◌+◌, ◌<◌, length, refl, sym, ◌∙◌, arith}
use Rattle.bim_text.specs.TextSpellings.{is_plain}
use Rattle.p21_table.proofs.TextsThere.{none_yet, all_more, text_there}
use Rattle.p21_table.proofs.first_byte.plain_by_bytes.Goals as goal

pub loop-end-init : goal.loop-end-init
loop-end-init c = record {
  on = omega arith;
  within = omega arith;
  plain = none_yet is_plain c.args.bytes.now (c.args.at + 1);
}

pub loop-end-preserved : goal.loop-end-preserved
loop-end-preserved c = record {
  on = omega (arith, c.loop-end.invariant.on);
  within = omega (arith, c.loop-end-test.true);
  plain = all_more is_plain c.args.bytes.now (c.args.at + 1) c.loop-end.end c.loop-end.invariant.on c.loop-end-test.true c.loop-end.invariant.plain (sym c.is_plain_byte.ensures ∙ c.if-is_plain_byte.true);
}

pub returns-clause-plain : goal.returns-clause-plain
returns-clause-plain c = c.loop-end.invariant.plain

pub returns-clause-words : goal.returns-clause-words
returns-clause-words c = λ v s.
    let on : c.args.at < c.loop-end.end = omega (arith, c.loop-end.invariant.on) in
    let le : c.loop-end.end + 1 < length c.args.bytes.now = omega arith in
    text_there is_plain c.args.bytes.now c.args.at c.loop-end.end v refl on le c.if-bytes-at-ne39.false c.if-bytes-end-ne39.false c.if-bytes-end-eq39.false c.loop-end.invariant.plain s
