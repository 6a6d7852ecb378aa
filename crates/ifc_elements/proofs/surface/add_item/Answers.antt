use Rattle.std.proofs.Common.{Ok, sym}
use Rattle.ifc_elements.proofs.TrianglesAdded.{item_mapped, item_set}
use Rattle.ifc_elements.proofs.surface.add_item.Goals as goal

pub returns-then-is_mapped_item : goal.returns-then-is_mapped_item
returns-then-is_mapped_item c = λ listed are.
    item_mapped c.args.exchange.now c.args.scale c.args.mode listed c.args.value.now c.in-Some.id c.in-Some-look.item c.args.out.now.items c.add_mapped.new.out.items (Ok c.in_ok-mapped.mapped)
    (sym c.in-Some.ensures) (sym c.in-Some-look.ensures) (sym c.if-is_mapped_item.ensures) (c.in_ok-mapped.ensures listed are)

pub returns : goal.returns
returns c = λ listed are.
    item_set c.args.exchange.now c.args.scale c.args.mode listed c.args.value.now c.in-Some.id c.in-Some-look.item c.args.out.now.items c.add_set.new.out.items (Ok c.in_ok-added.added)
    (sym c.in-Some.ensures) (sym c.in-Some-look.ensures) (sym c.if-is_mapped_item.ensures) (c.in_ok-added.ensures.added c.args.scale c.args.mode listed are)
