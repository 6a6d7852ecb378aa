-- What doors in memory show, whatever their counts of faults are.
use Rattle.std.proofs.Common.{◌≡◌, ℕ, List, [], ◌∷◌, map, false, Option, Some, None, Ok, refl, ap}
use Rattle.std.specs.Option.{option_map}
use Rattle.bim_net.specs.ConnectionViews.{LinkSeen, EndedLink, DoorSeen}
use Rattle.bim_net.specs.Doors.{Accepts, TakesBack}
use Rattle.bim_net.specs.Hosts.{some_failed}
use Rattle.bim_net.specs.Stores.{StoreState, GivesNext, door_of}

-- a door of which a connection was asked, and did not fail
pub accepts_next : {L : Type 0} (E : Type 0) (f : L → LinkSeen) (old new : StoreState) (faults : ℕ) (given : Option L) → GivesNext old (option_map f given) new
    → Accepts {E = E} (door_of old faults) (Ok given) (door_of new faults)
accepts_next E f old new faults None gives = ap (λ (s : StoreState). door_of s faults) gives.1
accepts_next E f old new faults (Some link) gives = ap (λ (s : StoreState). door_of s faults) gives.1

-- a connection is given back
pub back_faults : (x : EndedLink) (old new : StoreState) (faults : ℕ) → TakesBack x (door_of old 0) (door_of new 0) → TakesBack x (door_of old faults) (door_of new faults)
back_faults x old new faults back = record {
  grows = back.grows;
  tells = back.tells;
  others = ap (λ (d : DoorSeen). record d { faults = faults }) back.others;
}

-- doors that never fail
pub none_failed : (doors : List StoreState) → some_failed (map (λ d. door_of d 0) doors) ≡ false
none_failed [] = refl
none_failed (d ∷ ds) = none_failed ds
