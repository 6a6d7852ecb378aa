use Rattle.std.proofs.Common.{List, ◌++◌, map, ap, ◌∙◌, ℕ, refl}
use Rattle.ear_cut.specs.Areas.{point_at}
use Rattle.ear_cut.specs.declared.ears.Ear.{Ear}
use Rattle.walk_rows.specs.Rows.{row_at}
use Rattle.walk_rows.specs.inner.LoopRows.{inner_of}
use Rattle.walk_rows.proofs.EarRows.{face_added}
use Rattle.walk_rows.proofs.face_rows.add_face.Goals as goal

pub face_ears-requires-clause-rings : goal.face_ears-requires-clause-rings
face_ears-requires-clause-rings c = rw c.in-Some.is at c.in_ok-places.ensures.many

pub returns : goal.returns
returns c = λ names are. (
    let points = c.args.points.now in
    let places = c.in-Some.places in
    let rows = c.args.rows.now.items in
    let named = rw c.in-Some.is at (c.in_ok-places.ensures.places names are) in
    let has = rw c.in-Some.is at c.in_ok-places.ensures.many in
    let cut = rw c.in-Some-2.is at c.in_ok-ears.ensures in
    face_added names points c.args.face.now places (map (point_at points) places.outer.items) (map (map (point_at points)) (inner_of places)) c.in_ok-all.all.items c.in-Some-2.ears.items rows c.add_ears.new.rows.items c.requires.few
    named has refl refl c.in_ok-all.ensures cut
    (c.in_ok-add_ears.ensures ∙ ap (λ (ps : List ℕ). rows ++ map (row_at ps) c.deref-2.result.now) c.deref.ensures.value ∙ ap (λ (es : List Ear). rows ++ map (row_at c.in_ok-all.all.items) es) c.deref-2.ensures.value))
