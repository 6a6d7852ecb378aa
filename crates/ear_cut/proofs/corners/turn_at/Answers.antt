use Rattle.std.proofs.Common.{◌∙◌, ap, ℕ, length}
use Rattle.std.specs.Prelude.{slice_index_or}
use Rattle.ear_cut.specs.declared.corners.Turn.{Turn}
use Rattle.ear_cut.specs.Corners.{turn_at, nobody, previous}
use Rattle.ear_cut.proofs.corners.turn_at.Goals as goal

pub returns : goal.returns
unfolding turn_at
returns c =
    let left = c.args.left.now in
    ap (λ (k : ℕ). let t : Turn = record { before = slice_index_or left k nobody; corner = slice_index_or left c.args.i nobody; after = slice_index_or left c.next.result nobody } in t) c.previous.ensures.value
    ∙ ap (λ (k : ℕ). let t : Turn = record { before = slice_index_or left (previous (length left) c.args.i) nobody; corner = slice_index_or left c.args.i nobody; after = slice_index_or left k nobody } in t) c.next.ensures.value
