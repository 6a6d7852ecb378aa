use Rattle.std.proofs.Common.{sym}
use Rattle.faceset.proofs.Reaching.{face_bad, face_reached, face_within, reaches_more}
use Rattle.faceset.proofs.bad.is_bad_face.Goals as goal

pub returns-then-is_within-clause-bad : goal.returns-then-is_within-clause-bad
returns-then-is_within-clause-bad c =
    face_within c.args.exchange.now c.args.reaches.now c.args.value.now c.in-Some.id c.in-Some-look.face c.args.count (sym c.in-Some.ensures) (sym c.in-Some-look.ensures) c.requires.known c.if-is_within.ensures

pub returns-in_default-reach_of_face-clause-bad : goal.returns-in_default-reach_of_face-clause-bad
returns-in_default-reach_of_face-clause-bad c =
    face_bad c.args.exchange.now c.args.value.now c.in-Some.id c.in-Some-look.face c.args.count (sym c.in-Some.ensures) (sym c.in-Some-look.ensures)
    c.in_default-reach_of_face.ensures

pub returns-clause-bad : goal.returns-clause-bad
returns-clause-bad c =
    face_reached c.args.exchange.now c.args.value.now c.in-Some.id c.in-Some-look.face c.args.count c.in-Some-reach_of_face.reach (sym c.in-Some.ensures) (sym c.in-Some-look.ensures) c.in-Some-reach_of_face.ensures.1
    c.in-Some-reach_of_face.ensures.0

pub returns-clause-kept : goal.returns-clause-kept
returns-clause-kept c =
    reaches_more c.args.exchange.now c.args.reaches.now c.put.new.self c.in-Some.id c.in-Some-look.face c.in-Some-reach_of_face.reach (sym c.in-Some-look.ensures)
    c.in-Some-reach_of_face.ensures.0 c.in_ok-put.ensures c.requires.known
