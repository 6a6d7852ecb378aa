-- What the calls of a door do.
use Rattle.std.specs.Prelude.{◌≡◌, ℕ, ◌+◌, ◌<◌, ◌++◌, List, [], ◌∷◌, length, true, Option, Some, None, IsSome, Result, Ok, Err, ⊤}
use Rattle.bim_io.specs.Causes.{Rose}
use Rattle.bim_net.specs.ConnectionViews.{EndedLink, DoorSeen}

-- What is told grows by these, or is no longer told. Who doesn't tell never does again.
abbrev pub GrowsBy : {X : Type 0} → Option (List X) → Option (List X) → List X → Type 0
GrowsBy None None xs = ⊤
GrowsBy None (Some ys) xs = ⊥
GrowsBy (Some ws) None xs = ⊤
GrowsBy (Some ws) (Some ys) xs = ys ≡ ws ++ xs

-- a connection that the door gave was not given back yet, so far as is told
abbrev pub HasOut : Option (List EndedLink) → ℕ → Type 0
HasOut None gave = ⊥
HasOut (Some ended) gave = length ended < gave

-- one more connection is given, or the door answers that it is closed, or it fails
abbrev pub Accepts : {X E : Type 0} → DoorSeen → Result (Option X) E → DoorSeen → Type 0
Accepts old (Ok (Some link)) new = new ≡ record old { gave = old.gave + 1 }
Accepts old (Ok None) new = new ≡ record old { closed = true }
Accepts old (Err e) new = (new ≡ record old { faults = new.faults }) × Rose old.faults new.faults

-- A connection is given back. A door that tells, of whose connections one is out, tells afterwards too.
pub record TakesBack (ended : EndedLink) (old new : DoorSeen) : Type 0 where
  pub grows : GrowsBy old.ended new.ended (ended ∷ [])
  pub tells : HasOut old.ended old.gave → IsSome new.ended
  pub others : new ≡ record old { ended = new.ended }
