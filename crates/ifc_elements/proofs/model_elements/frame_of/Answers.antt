use Rattle.std.proofs.Common.{◌≡◌, Some, false, sym, ◌∙◌}
use Rattle.std.specs.List.{slice_get}
use Rattle.p21_values.specs.Values.{is_absent}
use Rattle.placement.specs.Placed.{frame_in}
use Rattle.ifc_elements.proofs.ElementsMade.{placed_told}
use Rattle.ifc_elements.proofs.model_elements.frame_of.Goals as goal

pub returns-clause-placed : goal.returns-clause-placed
returns-clause-placed c = λ world scale mode placements are.
    let there : slice_get c.args.instance.now.values 5 ≡ Some c.in_ok-value.value = sym c.in_ok-value.ensures in
    let present : is_absent c.in_ok-value.value ≡ false = sym c.is_absent.ensures ∙ c.if-is_absent.false in
    placed_told world scale mode placements (frame_in c.args.frames.now) c.args.instance.now c.in_ok-value.value c.in_ok-id.id c.get.result there present (sym c.in_ok-id.ensures) c.get.ensures are
