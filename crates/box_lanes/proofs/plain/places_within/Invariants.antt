use Rattle.std.proofs.Common.{◌≡◌, take}
use Rattle.box_lanes.specs.BoxPlaces.{places_within}
use Rattle.box_lanes.proofs.plain.places_within.Given as goal

abbrev pub invariant-loop-place : goal.invariant-loop-place
invariant-loop-place l = l.places.items ≡ places_within l.probe l.grow (take l.place l.boxes)
