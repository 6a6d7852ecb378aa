use Rattle.ifc_elements.proofs.SetsKept.{near_put}
use Rattle.ifc_elements.proofs.kept_sets.Sets.put.Goals as goal

pub invariant_of-self : goal.invariant_of-self
invariant_of-self c = near_put c.self.inside.sets.entries c.put.new.sets.entries c.args.id c.args.triangles c.put.result c.put.ensures.ok c.put.ensures.err c.requires c.self.invariant
