use Rattle.std.proofs.Common.{◌≡◌, map, take, Some}
use Rattle.bucket_check.specs.ClashSets.{SetValue}
use Rattle.clash_delta.specs.declared.slot.Slot.{Slot}
use Rattle.clash_delta.proofs.progress.Progress.sets.Given as goal

abbrev pub invariant-loop-slot : goal.invariant-loop-slot
invariant-loop-slot l = map (λ (s : SetValue). Some s) l.sets.items ≡ map (λ (s : Slot). s.set) (take l.slot-index l.self)
