use Rattle.std.proofs.Common.{[], ◌∷◌, ap, sym, ◌∙◌, refl, arith}
use Rattle.turn_tests.proofs.Counting.{one_more}
use Rattle.turn_tests.proofs.counter_tests.count.Goals as goal

pub loop-done-preserved : goal.loop-done-preserved
loop-done-preserved g c =
    let i = c.loop-done.invariant in let same = c.in-Ok.ensures.same in let a = c.in-Ok.ensures.answered in
    let more = one_more c.loop-done.pass c.call.new.pass a.news _ i.0.alone same.numbers refl a.takes.others a.seen in
    let before = i.2 in (
      record { own = c.in-Ok.ensures.own; alone = same.numbers ∙ i.0.alone ∙ ap (λ n. n ∷ []) (sym same.number) },
      record { number = same.number ∙ i.1.number; numbers = same.numbers ∙ i.1.numbers },
      omega arith,
    )
