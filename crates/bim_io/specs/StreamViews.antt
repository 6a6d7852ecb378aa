-- What contracts see of the objects of the outside, and what any number of calls on one leave.
use Rattle.std.specs.Prelude.{◌≡◌, ◌≤◌, ℕ, List, Bool, Option, IsTrue, All}
use Rattle.std.specs.Io.KnownBytes.{IsAtEnd}
use Rattle.bim_model.specs.Moments.{IsMoment}
use Rattle.bim_io.specs.Causes.{Gains, Loses, Grows, GivesMoment}

-- of a source: the bytes that are left and those that it has given, where it tells them, the most that one
-- read gives, where it has such a bound, whether it has answered its end, and how often it has failed
pub record SourceSeen : Type 0 where
  pub left : Option (List ℕ)
  pub given : Option (List ℕ)
  pub most : Option ℕ
  pub ended : Bool
  pub faults : ℕ

-- of a sink: the bytes that it holds, where it tells them, and how often it has failed
pub record SinkSeen : Type 0 where
  pub held : Option (List ℕ)
  pub faults : ℕ

-- of a clock: the one moment that it gives, where it has one, and the moments that it gave, where it tells
-- them
pub record ClockSeen : Type 0 where
  pub one : Option ℕ
  pub gave : Option (List ℕ)

-- a source that has answered its end has nothing left
abbrev pub EndsEmpty : SourceSeen → Type 0
EndsEmpty s = IsTrue s.ended → IsAtEnd s.left

-- a source gave these bytes, which were the next that were left; an end that it answered stands, and its
-- count of faults didn't fall
pub record SourceGives (old new : SourceSeen) (bytes : List ℕ) : Type 0 where
  pub left : Loses old.left new.left bytes
  pub given : Gains old.given new.given bytes
  pub most : new.most ≡ old.most
  pub ended : IsTrue old.ended → IsTrue new.ended
  pub faults : old.faults ≤ new.faults

-- a sink took these bytes, and its count of faults didn't fall
pub record SinkTakes (old new : SinkSeen) (bytes : List ℕ) : Type 0 where
  pub held : Grows old.held new.held bytes
  pub faults : old.faults ≤ new.faults

-- a moment that a clock gives, which has one moment or none to tell
abbrev pub MayGive : Option ℕ → ℕ → Type 0
MayGive one moment = IsMoment moment × GivesMoment one moment

-- a clock gave these moments in this order and no others
pub record ClockGives (old new : ClockSeen) (moments : List ℕ) : Type 0 where
  pub gave : Grows old.gave new.gave moments
  pub one : new.one ≡ old.one
  pub each : All (MayGive old.one) moments

-- a source, a sink and a clock
pub record Outside : Type 0 where
  pub source : SourceSeen
  pub sink : SinkSeen
  pub clock : ClockSeen

-- the outside of a command: its source, its sink and its clock
abbrev pub outside : SourceSeen → SinkSeen → ClockSeen → Outside
outside source sink clock = record { source = source; sink = sink; clock = clock }

-- the source gave the input, the clock the moments, and the sink took the output
pub record Exchanges (old new : Outside) (input moments output : List ℕ) : Type 0 where
  pub gave : SourceGives old.source new.source input
  pub told : ClockGives old.clock new.clock moments
  pub took : SinkTakes old.sink new.sink output
