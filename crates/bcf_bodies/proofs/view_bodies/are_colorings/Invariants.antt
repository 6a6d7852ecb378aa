use Rattle.std.proofs.Common.{◌≡◌, drop}
use Rattle.serde_json.specs.View.{items_view}
use Rattle.bcf_bodies.specs.Members.{all_are}
use Rattle.bcf_bodies.specs.ViewBodies.{is_coloring}
use Rattle.bcf_bodies.proofs.view_bodies.are_colorings.Given as goal

abbrev pub invariant-loop-item : goal.invariant-loop-item
invariant-loop-item l = all_are is_coloring (items_view (drop l.item-index l.items)) ≡ all_are is_coloring (items_view l.items)
