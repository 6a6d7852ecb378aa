use Rattle.spatial_tree.proofs.StepsMade.{deduped, dedup_rises}
use Rattle.spatial_tree.proofs.step.objects_of.Goals as goal

pub returns-clause-rises : goal.returns-clause-rises
returns-clause-rises c = dedup_rises c.sort.new.self.items c.dedup.new.self.items c.in_ok-sort.ensures.sorted c.dedup.ensures.filtered

pub returns-clause-contents : goal.returns-clause-contents
returns-clause-contents c o u h = deduped c.push_objects-2.new.objects.items c.sort.new.self.items c.dedup.new.self.items c.sort.ensures.permutation c.dedup.ensures.filtered o
    (c.in_ok-push_objects-2.ensures.keeps o (c.in_ok-push_objects.ensures.all o u h))

pub returns-clause-parts : goal.returns-clause-parts
returns-clause-parts c o u h = deduped c.push_objects-2.new.objects.items c.sort.new.self.items c.dedup.new.self.items c.sort.ensures.permutation c.dedup.ensures.filtered o
    (c.in_ok-push_objects-2.ensures.all o u h)
