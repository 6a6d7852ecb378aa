use Rattle.std.proofs.Common.{◌≡◌, ◌-◌, drop, length, reverse}
use Rattle.box_lanes.specs.BoxPlaces.{places_from}
use Rattle.clash_delta.proofs.Undone.{undone}
use Rattle.clash_delta.proofs.progress.undone_places.Given as goal

abbrev pub invariant-loop-step : goal.invariant-loop-step
invariant-loop-step l = l.places.items ≡ reverse (places_from (length l.slots - l.step) undone (drop (length l.slots - l.step) l.slots))
