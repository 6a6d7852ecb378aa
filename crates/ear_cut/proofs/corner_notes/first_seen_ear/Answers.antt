use Rattle.std.proofs.Common.{◌∙◌, ap, Option}
use Rattle.ear_cut.specs.declared.polygon_view.View.{View}
use Rattle.ear_cut.specs.Corners.{turn_at}
use Rattle.ear_cut.specs.Removal.{is_ear}
use Rattle.ear_cut.proofs.Search.{no_ear}
use Rattle.ear_cut.proofs.corner_notes.first_seen_ear.Goals as goal

pub returns-in-None-clause-first : goal.returns-in-None-clause-first
returns-in-None-clause-first c =
    let left = c.args.left.now in
    λ k l. ap (λ (v : Option View). is_ear v left (turn_at left k)) c.in-None.is ∙ no_ear left (turn_at left k)
