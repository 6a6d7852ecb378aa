use Rattle.std.proofs.Common.{◌≡◌, ◌+◌, drop}
use Rattle.serde_json.specs.View.{items_view}
use Rattle.bcf_bodies.specs.ViewBodies.{colored_count}
use Rattle.bcf_bodies.proofs.view_bodies.are_few.Given as goal

-- how many have been counted, and how many are left
abbrev pub invariant-loop-item : goal.invariant-loop-item
invariant-loop-item l =
    colored_count (items_view l.items) + l.left ≡ colored_count (items_view (drop l.item-index l.items)) + l.fn.most
