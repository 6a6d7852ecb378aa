use Rattle.std.proofs.Common.{nat_lt, rules, tests, ◌∙◌}
use Rattle.std.proofs.lemmas.Iterator.{YieldsList-from_slice}
use Rattle.std.proofs.lemmas.Iterator.Search.{any_from_yields_List}
use Rattle.bim_net.specs.ConnectionViews.{DoorSeen}
use Rattle.bim_net.proofs.NewDoors.{any_map}
use Rattle.bim_sockets.specs.Sockets.{door_seen}
use Rattle.bim_sockets.proofs.host.some_failed.Goals as goal

pub returns : goal.returns
returns c =
    let doors = c.args.doors.now in
    any_from_yields_List (λ d. nat_lt 0 (door_seen d).faults) _ _ _ c.any.ensures.ran (YieldsList-from_slice doors cc) (λ x b q k. search (rules, tests))
    ∙ any_map (λ (d : DoorSeen). nat_lt 0 d.faults) door_seen doors
