use Rattle.std.proofs.Common.{ℕ}
use Rattle.p21_values.specs.declared.value.Instance.{Instance}
use Rattle.p21_values.proofs.Turns.{turn, spent}
use Rattle.spatial_tree.specs.Relations.{Relates}
use Rattle.spatial_tree.proofs.Adding.{then_given, all_added}
use Rattle.spatial_tree.proofs.relations.add_instances.Goals as goal

pub loop-instance-preserved : goal.loop-instance-preserved
loop-instance-preserved c =
    let At : Instance → ℕ → ℕ → Type 0 = λ i o u. Relates c.args.entity c.args.many c.args.one i o u in
    then_given At c.args.instances.now c.loop-instance.yielded c.in-Some.instance c.args.links.now.items c.loop-instance.links.items c.add_instance.new.links.items
    (turn c.args.instances.now c.loop-instance.yielded (cc) _ c.loop-instance.yielded_by _ c.in-Some.is c.next.ensures.steps) c.loop-instance.invariant c.in_ok-add_instance.ensures

pub returns : goal.returns
returns c =
    let At : Instance → ℕ → ℕ → Type 0 = λ i o u. Relates c.args.entity c.args.many c.args.one i o u in
    all_added At c.args.instances.now _ c.args.links.now.items c.loop-instance.links.items
    (spent c.args.instances.now c.loop-instance.yielded (cc) _ c.loop-instance.yielded_by _ c.in-None.is c.next.ensures.steps) c.loop-instance.invariant
