use Rattle.std.proofs.Common.{◌+◌, List, sum_by, ap, sym, ◌∙◌, arith}
use Rattle.p21_values.specs.declared.value.Value21.{Value21}
use Rattle.p21_values.specs.Attributes.{led_to}
use Rattle.faceset.specs.FaceSets.{triangle_count}
use Rattle.p21_values.proofs.Turns.{so_far, turn, ended}
use Rattle.faceset.proofs.Named.{summed_more, summed_front}
use Rattle.model_build.proofs.counts.count_sets.Goals as goal

pub returns-in_default : goal.returns-in_default
returns-in_default c =
    let world = c.args.exchange.now in
    let front = so_far c.args.values.now c.loop-value.yielded (cc) _ c.loop-value.yielded_by in
    let t = turn c.args.values.now c.loop-value.yielded (cc) _ c.loop-value.yielded_by _ c.in-Some.is c.next.ensures.steps in
    let part = summed_front (triangle_count world) world c.args.values.now c.loop-value.yielded c.in-Some.value front t.0 t.1 in
    let sum = c.loop-value.invariant.0 in
    let past = c.in_default.ensures in
    omega (arith, part, sum, past)

pub loop-value-preserved : goal.loop-value-preserved
loop-value-preserved c =
    let world = c.args.exchange.now in
    let one = summed_more (triangle_count world) world c.loop-value.yielded c.in-Some.value in
    let sum = c.loop-value.invariant.0 in
    let more = c.in-Some-count_set_of.ensures.0 in
    (omega (arith, one, sum, more), c.in-Some-count_set_of.ensures.1)

pub returns : goal.returns
returns c =
    let all = ended c.args.values.now c.loop-value.yielded (cc) _ c.loop-value.yielded_by _ c.in-None.is c.next.ensures.steps in
    (sym c.loop-value.invariant.0 ∙ ap (λ (vs : List Value21). c.args.so_far + sum_by (triangle_count c.args.exchange.now) (led_to c.args.exchange.now vs)) all, c.loop-value.invariant.1)
