-- What a framer answers.
use Rattle.std.specs.Prelude.{◌≡◌, ℕ, ◌^◌, ◌<◌, Bool, true, false, List, [], ◌∷◌, ◌++◌, length, Result, Ok, Err}
use Rattle.http_frame.specs.declared.types.FrameStep.{FrameStep}
use Rattle.http_frame.specs.declared.types.FrameStep.TheVariants.{More, Continue, Request}
use Rattle.http_frame.specs.declared.types.FrameError.{FrameError}
use Rattle.http_frame.specs.declared.types.FrameError.TheVariants.{Fault, Memory}
use Rattle.http_frame.specs.Events.{Begins, Fails, Asks, Event, continue, request, IsRest, IsTold}

-- what `next` answers; the bytes stood for, and whether their first Continue was answered, before and after
abbrev pub Answers : List ℕ → Bool → Result FrameStep FrameError → List ℕ → Bool → Type 0
Answers old told (Ok More) new then =
    IsTold told old × IsRest old × (new ≡ old) × (then ≡ told) × (length old < 2 ^ 34)
Answers old told (Ok Continue) new then = (told ≡ false) × Asks old × (new ≡ old) × (then ≡ true)
Answers old told (Ok (Request r)) new then = IsTold told old × Begins old r new × (then ≡ false)
Answers old told (Err (Fault fault)) new then =
    IsTold told old × Fails old fault × (new ≡ old) × (then ≡ told)
Answers old told (Err Memory) new then = (new ≡ old) × (then ≡ told)

-- a call of the framer
pub data Act : Type 0 where
  fed : List ℕ → Act
  answered : Result FrameStep FrameError → Act

-- these calls, one after another
abbrev pub Runs : List ℕ → Bool → List Act → List ℕ → Bool → Type 0
Runs old told [] new then = (old ≡ new) × (told ≡ then)
Runs old told (fed piece ∷ acts) new then = Runs (old ++ piece) told acts new then
Runs old told (answered r ∷ acts) new then =
    (mid : List ℕ) × (mark : Bool) × Answers old told r mid mark × Runs mid mark acts new then

-- all that was fed
abbrev pub given : List Act → List ℕ
given [] = []
given (fed piece ∷ acts) = piece ++ given acts
given (answered r ∷ acts) = given acts

-- what a call answered, before the events of the later ones
abbrev pub event_before : Result FrameStep FrameError → List Event → List Event
event_before (Ok More) events = events
event_before (Ok Continue) events = continue ∷ events
event_before (Ok (Request r)) events = request r ∷ events
event_before (Err error) events = events

-- the events that were answered
abbrev pub told_by : List Act → List Event
told_by [] = []
told_by (fed piece ∷ acts) = told_by acts
told_by (answered r ∷ acts) = event_before r (told_by acts)
