use Rattle.std.proofs.Common.{◌∙◌, ap, sym, ℕ, length, Some, None, Option}
use Rattle.std.specs.Prelude.{slice_index_or}
use Rattle.ear_cut.specs.Corners.{is_straight, angle_of, turn_at}
use Rattle.ear_cut.specs.Removal.{choice, first_from, or_else, is_ear}
use Rattle.ear_cut.specs.inner.EarNotes.{blank}
use Rattle.ear_cut.proofs.Search.{first_is, first_same}
use Rattle.ear_cut.proofs.corner_notes.choice.Goals as goal

pub returns-in-Some-clause-choice : goal.returns-in-Some-clause-choice
unfolding choice
returns-in-Some-clause-choice c =
    let left = c.args.left.now in let view = c.args.view in let noted = c.requires.noted in
    let s = first_is (λ i. is_straight (angle_of view (turn_at left i))) (length left) (Some c.in-Some.i) (first_same (λ i. is_straight (slice_index_or c.args.notes.now i blank).angle) (λ i. is_straight (angle_of view (turn_at left i))) (length c.args.notes.now) (length left) (Some c.in-Some.i) noted.count (λ k l. ap is_straight (sym (noted.each k l).angle)) c.in-Some.ensures) in
    ap (λ (o : Option ℕ). or_else o (first_from (λ i. is_ear view left (turn_at left i)) 0 (length left))) s

pub returns-in-None-clause-choice : goal.returns-in-None-clause-choice
unfolding choice
returns-in-None-clause-choice c =
    let left = c.args.left.now in let view = c.args.view in let noted = c.requires.noted in
    let s = first_is (λ i. is_straight (angle_of view (turn_at left i))) (length left) None (first_same (λ i. is_straight (slice_index_or c.args.notes.now i blank).angle) (λ i. is_straight (angle_of view (turn_at left i))) (length c.args.notes.now) (length left) None noted.count (λ k l. ap is_straight (sym (noted.each k l).angle)) c.in-None.ensures) in
    first_is (λ i. is_ear view left (turn_at left i)) (length left) c.first_seen_ear.result c.first_seen_ear.ensures.first
    ∙ ap (λ (o : Option ℕ). or_else o (first_from (λ i. is_ear view left (turn_at left i)) 0 (length left))) s
