-- For which bytes a framer stands, by what it keeps.
use Rattle.std.specs.Prelude.{◌≡◌, ℕ, ◌≤◌, ◌⊎◌, Bool, true, false, List, ◌++◌, length, take, drop}
use Rattle.std.specs.Coded.{Unit-prop, le_prop}
use Rattle.std.proofs.Math.Logic.{∥∥₁_prop}
use Rattle.httparse.specs.Grammar.{RequestHead}
use Rattle.http_frame.specs.declared.types.HttpRequest.{HttpRequest}
use Rattle.http_frame.specs.declared.head.HeadFacts.{HeadFacts}
use Rattle.http_frame.specs.declared.head.Plan.{Plan}
use Rattle.http_frame.specs.declared.head.Plan.TheVariants as plan
use Rattle.http_frame.specs.declared.seen.GoodHead.{GoodHead}
use Rattle.http_frame.specs.declared.size_line.SizeSpot.TheVariants.{Digits}
use Rattle.http_frame.specs.declared.chunks.Part.TheVariants.{Size}
use Rattle.http_frame.specs.declared.field_lines.Spot.{Spot}
use Rattle.http_frame.specs.declared.field_lines.Spot.TheVariants as spot
use Rattle.http_frame.specs.declared.watch.Watch.{Watch}
use Rattle.http_frame.specs.declared.stage.Awaited.{Awaited}
use Rattle.http_frame.specs.declared.stage.Awaited.TheVariants.{Sized, Chunked, Whole}
use Rattle.http_frame.specs.declared.stage.Pending.{Pending}
use Rattle.http_frame.specs.declared.stage.Stage.{Stage}
use Rattle.http_frame.specs.declared.stage.Stage.TheVariants.{Head, Body, Failed}
use Rattle.http_frame.specs.declared.framer_steps.Stepped.{Stepped}
use Rattle.http_frame.specs.Heads.{Framing, absent, sized, chunked, front, framing, most_body, HasGoodHead}
use Rattle.http_frame.specs.Bodies.{ReadsBody}
use Rattle.http_frame.specs.Events.{Fails, Asks, IsTold}
use Rattle.http_frame.specs.FramerSteps.{Answers}
use Rattle.http_frame.specs.Scan.{spot_run, IsAsked}
use Rattle.http_frame.specs.Watched.{IsWatch}
use Rattle.http_frame.specs.Told.{IsFactsOf}
use Rattle.http_frame.specs.Chunks.{IsReading}

-- the request with this body
abbrev pub request_by : HeadFacts → List ℕ → HttpRequest
request_by facts body = record {
  method = facts.method;
  target = facts.target;
  minor = facts.minor;
  user = facts.user;
  close = facts.close;
  encoded = facts.encoded;
  seen = facts.seen;
  body = body;
}

-- nothing of the body has come
abbrev pub awaited_of : Plan → Awaited
awaited_of plan.Absent = Sized 0
awaited_of (plan.Sized n) = Sized n
awaited_of (plan.Chunked most) = Chunked (record { part = Size (Digits 0) 0; room = most; filled = 0 })

-- the same of a request whose head has just come
abbrev pub pending_of : GoodHead → Pending
pending_of good = record { facts = good.facts; owes = good.owes; body = awaited_of good.plan }

-- a body of so many bytes
abbrev pub IsSized : ℕ → Framing → Type 0
IsSized n how = ((how ≡ absent) × (n ≡ 0)) ⊎ (how ≡ sized n)

-- what is after the head: the items from the place on; chunks that were taken and those; or a body and those
abbrev pub IsBodyAt : Awaited → RequestHead → List ℕ → List ℕ → ℕ → Type 0
IsBodyAt (Sized n) head behind items at = IsSized n (framing head) × (behind ≡ drop at items)
IsBodyAt (Chunked c) head behind items at =
    (framing head ≡ chunked)
    × ((taken : List ℕ) × (behind ≡ taken ++ drop at items)
    × IsReading (most_body head) taken (take c.filled items) c.part c.room)
IsBodyAt (Whole filled) head behind items at =
    ReadsBody (most_body head) (framing head) behind (take filled items) (drop at items)

-- the bytes are a good head of which that is kept, and the body so far
pub record IsBodyOf (facts : HeadFacts) (body : Awaited) (items : List ℕ) (at : ℕ) (bytes : List ℕ)
    : Type 0 where
  pub head : RequestHead
  pub behind : List ℕ
  pub good : HasGoodHead bytes head behind
  pub facts_are : IsFactsOf facts head
  pub body_is : IsBodyAt body head behind items at

-- `100 Continue` is to be answered, or that is settled
abbrev pub IsOwed : Bool → Bool → List ℕ → Type 0
IsOwed true told bytes = (told ≡ false) × Asks bytes
IsOwed false told bytes = IsTold told bytes

-- the bytes for which it stands, and whether the Continue of the first request was answered
abbrev pub StandsAt : Stage → List ℕ → ℕ → List ℕ → Bool → Type 0
StandsAt (Head watch) items at bytes told = (told ≡ false) × (bytes ≡ drop at items)
StandsAt (Body p) items at bytes told = IsOwed p.owes told bytes × IsBodyOf p.facts p.body items at bytes
StandsAt (Failed fault) items at bytes told = IsTold told bytes × Fails bytes fault

-- the contents at the front end before the place
abbrev pub IsFilled : Awaited → ℕ → Type 0
IsFilled (Sized n) at = Unit {0}
IsFilled (Chunked c) at = c.filled ≤ at
IsFilled (Whole filled) at = filled ≤ at

-- the places are in the buffer, and the watch is that of its bytes
abbrev pub IsSafe : Stage → List ℕ → ℕ → Type 0
IsSafe (Head watch) items at =
    (at ≤ length items) × (watch.seen ≤ length (front (drop at items)))
    × IsWatch watch (take watch.seen (front (drop at items)))
IsSafe (Body p) items at = (at ≤ length items) × IsFilled p.body at
IsSafe (Failed fault) items at = at ≤ length items

-- what is asked of a spot holds in one way
IsAsked-prop : (s : Spot) (bytes : List ℕ) → IsProp (IsAsked s bytes)
IsAsked-prop spot.Before bytes = Unit-prop
IsAsked-prop spot.BeforeCr bytes = Unit-prop
IsAsked-prop spot.Line bytes = Unit-prop
IsAsked-prop (spot.Fields place) bytes = ∥∥₁_prop

-- so does what is asked of a watch
IsWatch-prop : IsSet Spot → (watch : Watch) (taken : List ℕ) → IsProp (IsWatch watch taken)
IsWatch-prop spots watch taken = λ x y. λ i. (
  spots watch.spot (spot_run spot.Before taken) x.0 y.0 i,
  IsAsked-prop watch.spot taken x.1 y.1 i,
)

-- so does what is asked of a body's filling
IsFilled-prop : (body : Awaited) (at : ℕ) → IsProp (IsFilled body at)
IsFilled-prop (Sized n) at = Unit-prop
IsFilled-prop (Chunked c) at = le_prop
IsFilled-prop (Whole filled) at = le_prop

-- and so what is asked of a stage
pub IsSafe-prop : IsSet Spot → (stage : Stage) (items : List ℕ) (at : ℕ) → IsProp (IsSafe stage items at)
IsSafe-prop spots (Head watch) items at = λ x y. λ i. (
  le_prop x.0 y.0 i,
  le_prop x.1 y.1 i,
  IsWatch-prop spots watch (take watch.seen (front (drop at items))) x.2 y.2 i,
)
IsSafe-prop spots (Body p) items at = λ x y. λ i. (le_prop x.0 y.0 i, IsFilled-prop p.body at x.1 y.1 i)
IsSafe-prop spots (Failed fault) items at = le_prop

-- a step answers what the bytes say, and stands for what is left of them
unfoldable pub Steps : Stage → List ℕ → ℕ → Stepped → List ℕ → Type 0
Steps stage old at stepped new =
    (bytes : List ℕ) (told : Bool) → StandsAt stage old at bytes told
    → (rest : List ℕ) × (mark : Bool) × Answers bytes told stepped.answer rest mark
    × StandsAt stepped.stage new stepped.at rest mark

-- for whatever bytes it stood it stands still
unfoldable pub Keeps : Stage → List ℕ → ℕ → List ℕ → ℕ → Type 0
Keeps stage old at new place =
    (bytes : List ℕ) (told : Bool) → StandsAt stage old at bytes told → StandsAt stage new place bytes told

-- for whatever bytes it stood it stands for these and then the piece
unfoldable pub Grows : Stage → List ℕ → ℕ → List ℕ → List ℕ → Type 0
Grows stage old at new piece =
    (bytes : List ℕ) (told : Bool) → StandsAt stage old at bytes told
    → StandsAt stage new at (bytes ++ piece) told

-- a fault was met
abbrev pub is_failed : Stage → Bool
is_failed (Head watch) = false
is_failed (Body p) = false
is_failed (Failed fault) = true

-- at the front of a line, after empty lines alone
abbrev pub is_before : Spot → Bool
is_before spot.Before = true
is_before spot.BeforeCr = false
is_before spot.Line = false
is_before (spot.Fields place) = false
