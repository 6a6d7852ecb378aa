use Rattle.std.proofs.Common.{◌≡◌, drop}
use Rattle.serde_json.specs.View.{items_view}
use Rattle.bcf_bodies.specs.Members.{all_of}
use Rattle.bcf_bodies.specs.ViewBodies.{component_in}
use Rattle.bcf_bodies.proofs.Lists.{front}
use Rattle.bcf_bodies.proofs.components.components_among.Given as goal

abbrev pub invariant-loop-item : goal.invariant-loop-item
invariant-loop-item l =
    front l.components (all_of component_in (items_view (drop l.item-index l.items))) ≡ all_of component_in (items_view l.items)
