use Rattle.std.proofs.Common.{◌≡◌, ◌∙◌, ◌<◌, ap, sym, subst, length, false, Some}
use Rattle.std.specs.Prelude.{slice_index_or, ◌==◌}
use Rattle.ear_cut.specs.declared.corners.Turn.{Turn}
use Rattle.ear_cut.specs.declared.corners.Angle.{Angle}
use Rattle.ear_cut.specs.declared.corners.Angle.TheVariants.{Convex}
use Rattle.ear_cut.specs.Corners.{InGrid, turn_at, nobody, angle_of}
use Rattle.ear_cut.specs.Removal.{is_free, is_ear_at}
use Rattle.ear_cut.specs.inner.EarNotes.{IsClearTo, tells_at}
use Rattle.ear_cut.proofs.Closed.{turn_in_grid}
use Rattle.ear_cut.proofs.Search.{clear_tells, open_convex}
use Rattle.ear_cut.proofs.corner_notes.searched.Goals as goal

pub clear_to-clear-requires-clause-t_in : goal.clear_to-clear-requires-clause-t_in
clear_to-clear-requires-clause-t_in c = subst (λ (t : Turn). InGrid t) (sym c.turn_at.ensures) (turn_in_grid c.args.left.now c.args.i c.requires.left_in c.requires.i_in)

pub clear_to-clear-requires-clause-convex : goal.clear_to-clear-requires-clause-convex
clear_to-clear-requires-clause-convex c =
    ap (angle_of (Some c.args.view)) c.turn_at.ensures ∙ (sym c.requires.known.angle ∙ open_convex c.args.note.angle c.args.note.held c.requires.open)

pub returns-clause-tells : goal.returns-clause-tells
returns-clause-tells c =
    let left = c.args.left.now in let t = turn_at left c.args.i in let n = c.clear_to-clear.result in
    let convex : c.args.note.angle ≡ Convex = open_convex c.args.note.angle c.args.note.held c.requires.open in
    let clear : IsClearTo (Some c.args.view) left t n = subst (λ (u : Turn). IsClearTo (Some c.args.view) left u n) c.turn_at.ensures c.clear_to-clear.ensures.clear in
    let stop : n < length left → is_free (Some c.args.view) t (slice_index_or left n nobody) ≡ false = subst (λ (u : Turn). n < length left → is_free (Some c.args.view) u (slice_index_or left n nobody) ≡ false) c.turn_at.ensures c.clear_to-clear.ensures.stop in
    ap (λ (a : Angle). tells_at a (n == length left)) convex
    ∙ (clear_tells (Some c.args.view) left t n clear stop ∙ ap (is_ear_at (Some c.args.view) left t) (sym convex ∙ c.requires.known.angle))
