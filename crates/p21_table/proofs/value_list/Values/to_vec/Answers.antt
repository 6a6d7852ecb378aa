use Rattle.std.proofs.Common.{◌∙◌}
use Rattle.p21_values.proofs.Turns.{ended}
use Rattle.p21_table.proofs.value_list.Values.to_vec.Goals as goal

pub returns : goal.returns
returns c = c.loop-value.invariant ∙ ended c.args.self.now c.loop-value.yielded (cc) _ c.loop-value.yielded_by _ c.in-None.is c.next.ensures.steps
