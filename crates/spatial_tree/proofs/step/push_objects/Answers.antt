use Rattle.spatial_tree.specs.inner.Onlys.{link}
use Rattle.spatial_tree.proofs.StepsMade.{object_pushed, object_kept}
use Rattle.spatial_tree.proofs.step.push_objects.Goals as goal

pub loop-link-preserved : goal.loop-link-preserved
loop-link-preserved c = record {
  keeps = λ o h. object_kept c.loop-link.objects.items c.push.new.self.items _ o c.in_ok-push.ensures.items (c.loop-link.invariant.keeps o h);
  all = object_pushed c.args.links.now c.loop-link.link-index (link 0 0) c.loop-link.objects.items c.push.new.self.items c.loop-link-test.true c.in_ok-push.ensures.items c.loop-link.invariant.all;
}
