use Rattle.std.proofs.Common.{◌+◌, ◌≤◌, List, length, map, Vec, Global, option_copied, ap, sym, ◌∙◌, subst}
use Rattle.bim_model.specs.declared.geometry.Point.{Point}
use Rattle.ear_cut.specs.declared.ears.Ear.{Ear}
use Rattle.void_bridge.specs.HoleLoops.{corner_count}
use Rattle.faceset.specs.FacePolygons.{face_points, ears_of, IsLoopsCut}
use Rattle.faceset.specs.FaceSets.{most_corners, triangle_of}
use Rattle.faceset.proofs.Loops.{cut_count}
use Rattle.faceset.proofs.Read.{inner_of, items_of, read_few, read_cut, read_stuck, read_apart}
use Rattle.faceset.proofs.faces.cut_face.Goals as goal

pub cut_loops-requires-clause-few : goal.cut_loops-requires-clause-few
cut_loops-requires-clause-few c =
    let loops = c.in-Some.loops in
    let read = rw c.in-Some.is at c.in_ok-loops.ensures in
    let few = read_few (option_copied c.args.numbers) c.args.points.now c.args.face.now loops read c.if-has_many_corners.ensures in
    subst (λ (o : List Point). length o + corner_count (items_of c.deref-2.result.now) ≤ most_corners) (sym c.deref.ensures.value)
    (subst (λ (i : List (Vec Point Global)). length loops.outer.items + corner_count (items_of i) ≤ most_corners) (sym c.deref-2.ensures.value) few)

pub returns-in_ok-made_of-in-Cut-clause-outcome : goal.returns-in_ok-made_of-in-Cut-clause-outcome
returns-in_ok-made_of-in-Cut-clause-outcome c =
    let loops = c.in-Some.loops in
    let read = rw c.in-Some.is at c.in_ok-loops.ensures in
    let cut = rw c.in-Cut.is at c.in_ok-ears.ensures in
    let ears = c.in-Cut.ears.items in
    read_cut (option_copied c.args.numbers) c.args.points.now c.args.face.now loops ears c.in_ok-made_of-in-Cut.field-0.items read c.if-has_many_corners.ensures
    (ap (λ (i : List (Vec Point Global)). ears_of loops.outer.items (items_of i)) (sym c.deref-2.ensures.value) ∙ (ap (λ (o : List Point). ears_of o (items_of c.deref-2.result.now)) (sym c.deref.ensures.value) ∙ cut))
    (c.in_ok-made_of-in-Cut.ensures ∙ ap (λ (es : List Ear). map (triangle_of (face_points loops.outer.items (inner_of loops))) es) c.deref-in-Cut.ensures.value)

pub returns-in_ok-made_of-in-Cut-clause-count : goal.returns-in_ok-made_of-in-Cut-clause-count
returns-in_ok-made_of-in-Cut-clause-count c =
    let loops = c.in-Some.loops in
    let read = rw c.in-Some.is at c.in_ok-loops.ensures in
    let cut = rw c.in-Cut.is at c.in_ok-ears.ensures in
    let ears = c.in-Cut.ears.items in
    cut_count (option_copied c.args.numbers) c.args.points.now c.args.face.now c.in_ok-made_of-in-Cut.field-0.items
    (read_cut (option_copied c.args.numbers) c.args.points.now c.args.face.now loops ears c.in_ok-made_of-in-Cut.field-0.items read c.if-has_many_corners.ensures
    (ap (λ (i : List (Vec Point Global)). ears_of loops.outer.items (items_of i)) (sym c.deref-2.ensures.value) ∙ (ap (λ (o : List Point). ears_of o (items_of c.deref-2.result.now)) (sym c.deref.ensures.value) ∙ cut))
    (c.in_ok-made_of-in-Cut.ensures ∙ ap (λ (es : List Ear). map (triangle_of (face_points loops.outer.items (inner_of loops))) es) c.deref-in-Cut.ensures.value))

pub returns-in-Stuck-clause-outcome : goal.returns-in-Stuck-clause-outcome
returns-in-Stuck-clause-outcome c =
    let loops = c.in-Some.loops in
    let read = rw c.in-Some.is at c.in_ok-loops.ensures in
    let told = subst (λ (o : List Point). IsLoopsCut o (items_of c.deref-2.result.now) c.in_ok-ears.field-0) c.deref.ensures.value c.in_ok-ears.ensures in
    let stuck = rw c.in-Stuck.is at (subst (λ (i : List (Vec Point Global)). IsLoopsCut loops.outer.items (items_of i) c.in_ok-ears.field-0) c.deref-2.ensures.value told) in
    read_stuck (option_copied c.args.numbers) c.args.points.now c.args.face.now loops read c.if-has_many_corners.ensures stuck

pub returns-in-Apart-clause-outcome : goal.returns-in-Apart-clause-outcome
returns-in-Apart-clause-outcome c =
    let loops = c.in-Some.loops in
    let read = rw c.in-Some.is at c.in_ok-loops.ensures in
    let told = subst (λ (o : List Point). IsLoopsCut o (items_of c.deref-2.result.now) c.in_ok-ears.field-0) c.deref.ensures.value c.in_ok-ears.ensures in
    let apart = rw c.in-Apart.is at (subst (λ (i : List (Vec Point Global)). IsLoopsCut loops.outer.items (items_of i) c.in_ok-ears.field-0) c.deref-2.ensures.value told) in
    read_apart (option_copied c.args.numbers) c.args.points.now c.args.face.now loops read c.if-has_many_corners.ensures apart
