use Rattle.std.proofs.Common.{rules}
use Rattle.std.proofs.lemmas.List.Sorted.{answers_always}
use Rattle.spatial_tree.specs.Relations.{IsRelated}
use Rattle.spatial_tree.specs.declared.relations.Link.{Link}
use Rattle.spatial_tree.proofs.Adding.{added_to_none}
use Rattle.spatial_tree.proofs.relations.links_of.Goals as goal

pub returns-clause-all : goal.returns-clause-all
returns-clause-all c = rw (← c.iter.ensures.same) (added_to_none (IsRelated c.args.entity c.args.many c.args.one c.iter.result) c.new-links.result.items c.add_instances.new.links.items c.sort_by_key.new.self.items
    c.new-links.ensures.items c.in_ok-add_instances.ensures c.sort_by_key.ensures.permutation)

pub returns-clause-rises : goal.returns-clause-rises
returns-clause-rises c = c.in_ok-sort_by_key.ensures.sorted (λ (l : Link). l.object) (answers_always _ _ _ (λ f a r g h. search rules))
