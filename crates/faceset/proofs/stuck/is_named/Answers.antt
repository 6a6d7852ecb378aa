use Rattle.std.proofs.Common.{sym}
use Rattle.p21_values.specs.Values.{reference_of}
use Rattle.p21_values.proofs.Turns.{turn}
use Rattle.faceset.proofs.Joins.{contains_mapped}
use Rattle.faceset.proofs.Numbered.{unnamed_more}
use Rattle.faceset.proofs.stuck.is_named.Goals as goal

pub returns-then-refers_to : goal.returns-then-refers_to
returns-then-refers_to c =
    let t = turn c.args.values.now c.loop-value.yielded (cc) _ c.loop-value.yielded_by _ c.in-Some.is c.next.ensures.steps in
    contains_mapped reference_of c.args.values.now c.in-Some.value c.args.id (_, t.0, sym t.1) c.if-refers_to.ensures

pub loop-value-preserved : goal.loop-value-preserved
loop-value-preserved c = unnamed_more c.loop-value.yielded c.in-Some.value c.args.id c.if-refers_to.ensures c.loop-value.invariant
