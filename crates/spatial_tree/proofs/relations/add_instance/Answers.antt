use Rattle.std.proofs.Common.{sym, ◌∙◌}
use Rattle.spatial_tree.specs.Relations.{Relates}
use Rattle.spatial_tree.specs.inner.Onlys.{Adds}
use Rattle.spatial_tree.proofs.Relating.{relates_added, on_ok_map, Pairs}
use Rattle.spatial_tree.proofs.relations.add_instance.Goals as goal

pub returns : goal.returns
returns c =
    on_ok_map (Adds (Pairs c.in-Some-items_at.items c.in-Some.above) c.args.links.now.items c.add_items.new.links.items) (Adds (Relates c.args.entity c.args.many c.args.one c.args.instance.now) c.args.links.now.items c.add_items.new.links.items)
    (relates_added c.args.entity c.args.many c.args.one c.args.instance.now c.in-Some-items_at.items c.in-Some.above c.args.links.now.items c.add_items.new.links.items
    (sym c.includes.ensures ∙ c.if-not-includes.false)
    (sym c.items_at.ensures ∙ c.in-Some-items_at.is)
    (sym c.reference_at.ensures ∙ c.in-Some.is))
    c.add_items.result c.add_items.ensures
