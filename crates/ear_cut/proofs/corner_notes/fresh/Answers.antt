use Rattle.std.proofs.Common.{sym, subst}
use Rattle.ear_cut.specs.declared.corners.Turn.{Turn}
use Rattle.ear_cut.specs.Corners.{InGrid}
use Rattle.ear_cut.proofs.Closed.{turn_in_grid}
use Rattle.ear_cut.proofs.corner_notes.fresh.Goals as goal

pub angle_of-requires : goal.angle_of-requires
angle_of-requires c = subst (λ (t : Turn). InGrid t) (sym c.turn_at.ensures) (turn_in_grid c.args.left.now c.args.i c.requires.left_in c.requires.i_in)
