use Rattle.std.proofs.Common.{arith, sum_by, List, ap, ◌∙◌}
use Rattle.p21_values.specs.declared.value.Value21.{Value21}
use Rattle.p21_values.specs.Attributes.{led_to}
use Rattle.faceset.specs.FaceSets.{face_count}
use Rattle.p21_values.proofs.Turns.{so_far, turn, ended}
use Rattle.faceset.proofs.Named.{summed_more, summed_front}
use Rattle.faceset.proofs.face_counts.count_faces.Goals as goal

pub returns-in_default-clause-none : goal.returns-in_default-clause-none
returns-in_default-clause-none c =
    let front = so_far c.args.values.now c.loop-value.yielded (cc) _ c.loop-value.yielded_by in
    let t = turn c.args.values.now c.loop-value.yielded (cc) _ c.loop-value.yielded_by _ c.in-Some.is c.next.ensures.steps in
    let part = summed_front face_count c.args.exchange.now c.args.values.now c.loop-value.yielded c.in-Some.value front t.0 t.1 in
    let sum = c.loop-value.invariant.0 in
    let most = c.loop-value.invariant.1 in
    let past = c.in_default.ensures.none in
    omega (arith, part, sum, most, past)

pub loop-value-preserved : goal.loop-value-preserved
loop-value-preserved c =
    let one = summed_more face_count c.args.exchange.now c.loop-value.yielded c.in-Some.value in
    let sum = c.loop-value.invariant.0 in
    let most = c.loop-value.invariant.1 in
    let more = c.in-Some-count_face.ensures.some in
    let is = more.0 in
    let within = more.1 in
    (omega (arith, one, sum, is), omega (arith, most, within))

pub returns-clause-some : goal.returns-clause-some
returns-clause-some c =
    let all = ended c.args.values.now c.loop-value.yielded (cc) _ c.loop-value.yielded_by _ c.in-None.is c.next.ensures.steps in
    (c.loop-value.invariant.0 ∙ ap (λ (vs : List Value21). sum_by face_count (led_to c.args.exchange.now vs)) all, c.loop-value.invariant.1)
