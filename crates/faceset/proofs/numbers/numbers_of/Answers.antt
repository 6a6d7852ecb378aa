use Rattle.std.proofs.Common.{filter_map, ap, ◌∙◌}
use Rattle.p21_values.specs.Values.{reference_of}
use Rattle.p21_values.proofs.Turns.{ended}
use Rattle.faceset.proofs.Numbered.{numbers_more}
use Rattle.faceset.proofs.numbers.numbers_of.Goals as goal

pub loop-value-preserved : goal.loop-value-preserved
loop-value-preserved c =
    numbers_more c.loop-value.yielded c.in-Some.value c.loop-value.ids.items c.add_number.new.ids.items c.loop-value.invariant c.in_ok-add_number.ensures

pub returns : goal.returns
returns c =
    let all = ended c.args.values.now c.loop-value.yielded (cc) _ c.loop-value.yielded_by _ c.in-None.is c.next.ensures.steps in
    c.loop-value.invariant ∙ ap (filter_map reference_of) all
