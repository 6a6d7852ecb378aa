-- What is left when all passes were joined into one and that has worked.
use Rattle.std.proofs.Common.{◌≡◌, ℕ, ◌+◌, List, ◌++◌, Bool, map, All, sym, subst}
use Rattle.bim_net.specs.ConnectionViews.{DoorSeen}
use Rattle.book_turn.specs.NumberLists.{numbers_from}
use Rattle.book_turn.specs.Entries.{AllBefore}
use Rattle.book_turn.specs.Passes.{TurnState}
use Rattle.book_history.specs.declared.limits.Settings.{Settings}
use Rattle.book_history.specs.declared.changes.Entry.{Entry}
use Rattle.book_passes.specs.Lessons.{BookPass, caller_of}
use Rattle.check_workers.specs.declared.workers.Lack.{Lack}
use Rattle.check_workers.specs.WorkerTurns.{Teaches}
use Rattle.check_workers.specs.Joins.{ExtendsByWork, HasEach, AreOfLanes, pass_of}
use Rattle.check_workers.proofs.Joins.{taught_work}
use Rattle.serve_lanes.specs.Histories.{Service, LanesJoined, DoorServed}
use Rattle.serve_lanes.proofs.Histories.{doors_grown, doors_in}
use Rattle.serve_lanes.proofs.Joining.{of_lanes}

module _ (s : Service) (links : ℕ) (turn : TurnState Settings) (v0 v1 v2 : BookPass) (doors : List DoorSeen) (failed : Bool) (lack : Lack)
    (j : LanesJoined s links turn v0 doors failed lack) (p : ExtendsByWork v0 v1) (t : Teaches (caller_of v1) (caller_of v2)) where
  worked : ExtendsByWork v1 v2
  worked = taught_work v1 v2 p.extends.up_to t

  -- the doors, in what the one pass has seen
  pub closed_served : (journal : List Entry) → journal ≡ v2.seen → All (DoorServed s journal) doors
  closed_served journal is = subst (λ (h : List Entry). All (DoorServed s h) doors) (sym is)
      (doors_in s v2 doors (doors_grown s v1 v2 doors worked.extends (doors_grown s v0 v1 doors p.extends j.done)))

  -- whose entries it has seen
  pub closed_entries : (lanes top : ℕ) (seats : List ℕ) (journal : List Entry) → journal ≡ v2.seen → map (λ (d : DoorSeen). d.number) doors ≡ numbers_from 0 lanes → v1.numbers ≡ v0.numbers ++ seats
      → v0.number ≡ top → HasEach lanes top seats → AllBefore pass_of (top + 1) journal → AreOfLanes lanes journal
  closed_entries lanes top seats journal is numbers more same each before = subst (AreOfLanes lanes) (sym is)
      (of_lanes lanes v0 v1 v2 (map (λ (d : DoorSeen). d.number) doors) seats j.entries numbers j.numbers more p worked
      (subst (λ (n : ℕ). HasEach lanes n seats) (sym same) each)
      (subst (λ (n : ℕ). AllBefore pass_of (n + 1) v2.seen) (sym same) (subst (λ (h : List Entry). AllBefore pass_of (top + 1) h) is before)))
