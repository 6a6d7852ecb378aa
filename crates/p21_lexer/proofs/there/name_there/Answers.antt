use Rattle.std.proofs.Common.{◌≡◌, ◌+◌, ◌-◌, ◌*◌, ◌≤◌, get_or, drop, true, sym, ap, ◌∙◌, arith}
use Rattle.p21_lexer.specs.inner.TokenSpans.{name_run}
use Rattle.p21_lexer.specs.Spelling.{is_digit}
use Rattle.p21_lexer.specs.declared.limits.TheConstants.{GREATEST_NAME}
use Rattle.p21_lexer.proofs.RunLemmas.{name_step, name_stop, name_past}
use Rattle.p21_lexer.proofs.Stands.{digit_fits, value_more, name_stands}
use Rattle.p21_lexer.proofs.there.name_there.Goals.{then-loop-end-test+else-is_digit, else-loop-end-test}
use Rattle.p21_lexer.proofs.there.name_there.Goals as goal

pub loop-end-preserved : goal.loop-end-preserved
loop-end-preserved c =
    let bs = c.args.bytes.now in
    let v = c.loop-end.invariant in
    let digit : is_digit (get_or bs c.loop-end.end 0) ≡ true = sym c.is_digit.ensures ∙ c.if-is_digit.true in
    let small : c.loop-end.id * 10 + (get_or bs c.loop-end.end 0 - 48) ≤ GREATEST_NAME = digit_fits c.loop-end.id (get_or bs c.loop-end.end 0) c.if-id.false digit in
    let step = name_step c.loop-end.id bs c.loop-end.end c.loop-end-test.true digit small in
    record {
      within = omega (arith, c.loop-end-test.true);
      on = omega (arith, v.on);
      small = small;
      run = omega (arith, v.run, step);
      value = value_more bs (c.args.at + 1) c.loop-end.end v.on c.loop-end-test.true ∙ ap (λ n. n * 10 + (get_or bs c.loop-end.end 0 - 48)) v.value;
    }

pub returns : goal.returns
returns c =
    let bs = c.args.bytes.now in
    let v = c.loop-end.invariant in
    let none : name_run c.loop-end.id (drop c.loop-end.end bs) ≡ 0 = elim c.loop-end-test.branch [
      | then-loop-end-test+else-is_digit w ↦ name_stop c.loop-end.id bs c.loop-end.end w.loop-end-test.true (sym w.is_digit.ensures ∙ w.if-is_digit.false)
      | else-loop-end-test w ↦ name_past c.loop-end.id bs c.loop-end.end w.loop-end-test.false
    ] in
    let run : (c.args.at + 1) + name_run 0 (drop (c.args.at + 1) bs) ≡ c.loop-end.end = omega (arith, v.run, none) in
    record { there = name_stands bs c.args.at c.loop-end.end c.if-at-bytes.false c.if-bytes-at-ne35.false v.within (omega (arith, v.on, c.if-end-from.false)) run; number = v.value }
