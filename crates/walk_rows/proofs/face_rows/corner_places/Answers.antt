use Rattle.std.proofs.Common.{length, ap, arith}
use Rattle.std.proofs.lemmas.List.{length_push}
use Rattle.faceset.specs.FaceSets.{NamesPoint}
use Rattle.faceset.proofs.Zips.{zip_push}
use Rattle.walk_rows.proofs.face_rows.corner_places.Goals as goal

pub loop-value-preserved : goal.loop-value-preserved
loop-value-preserved c = record {
  named = λ names are. rw c.in_ok-push-in-Some-place_named.ensures.items (zip_push (NamesPoint names c.args.count) c.loop-value.yielded c.loop-value.made.items c.in-Some.value c.in-Some-place_named.place
      (c.loop-value.invariant.named names are) (c.in-Some-place_named.ensures names are));
  few = (
      let l = length_push c.loop-value.made.items c.in-Some-place_named.place in
      let e = ap length c.in_ok-push-in-Some-place_named.ensures.items in
      let v = ap length c.as_slice.ensures.value in
      omega (arith, l, e, v, c.loop-value.invariant.few, c.if-as_slice-eq-MOST_CORNERS.false));
}
