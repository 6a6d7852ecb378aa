use Rattle.std.proofs.Common.{ap, ◌∙◌}
use Rattle.bim_model.specs.Gaps.{is_within}
use Rattle.box_lanes.proofs.Places.{place_taken, place_passed}
use Rattle.box_lanes.proofs.plain.places_within.Goals as goal
use Rattle.box_lanes.proofs.plain.places_within.Goals.{then-is_within+in_ok-push, else-is_within}

pub loop-place-preserved : goal.loop-place-preserved
loop-place-preserved c =
    let passes = is_within c.args.probe.now c.args.grow in
    elim c.if-is_within.branch [
      | then-is_within+in_ok-push w ↦
          place_taken passes c.args.boxes.now c.loop-place.place _ c.loop-place-test.true c.is_within.ensures w.if-is_within.true c.loop-place.invariant
          (ap (λ v. v.items) w.places-is ∙ w.in_ok-push.ensures.items)
      | else-is_within w ↦
          place_passed passes c.args.boxes.now c.loop-place.place _ c.loop-place-test.true c.is_within.ensures w.if-is_within.false
          (ap (λ v. v.items) w.places-is ∙ c.loop-place.invariant)
    ]
