-- What contracts see of hosts, and what their calls do.
use Rattle.std.specs.Prelude.{◌≡◌, ℕ, ◌+◌, nat_lt, List, [], ◌∷◌, Bool, true, false, Option, Some, Result, Ok, Err, ⊤}
use Rattle.std.specs.List.{list_any}
use Rattle.bim_io.specs.Causes.{counted, Rose}
use Rattle.bim_net.specs.declared.hosts.Opening.{Opening}
use Rattle.bim_net.specs.declared.hosts.HostFault.{HostFault}
use Rattle.bim_net.specs.declared.hosts.HostFault.TheVariants.{Failed, Memory}
use Rattle.bim_net.specs.ConnectionViews.{DoorSeen, IsNew}

-- of a host: whether its doors tell the connections that were given back; how often it opened doors, and how it did
-- last; how often doors were handed back to it, and what they showed last; the one moment that its clocks give, where
-- they have one; and how often it has failed
pub record HostSeen : Type 0 where
  pub tells : Bool
  pub openings : ℕ
  pub opened : Option Opening
  pub closings : ℕ
  pub closed : List DoorSeen
  pub moment : Option ℕ
  pub faults : ℕ

-- doors on which no call was made yet, numbered from this number on
abbrev pub AreNew : Bool → ℕ → List DoorSeen → Type 0
AreNew tells number [] = ⊤
AreNew tells number (d ∷ ds) = IsNew tells number d × AreNew tells (number + 1) ds

-- one of the doors has failed
abbrev pub some_failed : List DoorSeen → Bool
some_failed doors = list_any (λ (d : DoorSeen). nat_lt 0 d.faults) doors

-- doors are opened, or the host fails, or memory runs out
abbrev pub Opens : {X : Type 0} → Opening → HostSeen → Result X HostFault → HostSeen → Type 0
Opens opening old (Ok doors) new =
    new ≡ record old { openings = counted old.openings; opened = Some opening }
Opens opening old (Err Failed) new = (new ≡ record old { faults = new.faults }) × Rose old.faults new.faults
Opens opening old (Err Memory) new = new ≡ old

-- doors are handed back: the host's count of faults goes up exactly where one of them has failed
pub record Closes (doors : List DoorSeen) (old new : HostSeen) : Type 0 where
  pub others : new ≡ record old { closings = counted old.closings; closed = doors; faults = new.faults }
  pub failed : some_failed doors ≡ true → Rose old.faults new.faults
  pub sound : some_failed doors ≡ false → new.faults ≡ old.faults
