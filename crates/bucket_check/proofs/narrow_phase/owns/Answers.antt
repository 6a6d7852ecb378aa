use Rattle.std.proofs.Common.{ap, ◌∙◌}
use Rattle.bucket_check.specs.Clashes.{is_cell}
use Rattle.bucket_check.proofs.Tested.{owner_is}
use Rattle.bucket_check.proofs.narrow_phase.owns.Goals as goal

pub returns : goal.returns
returns c =
    let a = c.args in
    let o = c.owner_of.ensures in
    c.is_cell.ensures ∙ ap (λ k. is_cell k a.cell) (owner_is a.grid.now.boxes c.boxes-boxes.result.now a.a a.b c.owner_of.result c.boxes-boxes.ensures.boxes o.x o.y o.z)
