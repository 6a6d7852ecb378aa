-- What the bytes of a request tell up to the end of its head.
use Rattle.std.specs.Prelude.{◌≡◌, ℕ, ◌<◌, ◌≤◌, List, length, map, drop, All, Option, None, Some, Result, Ok, Err}
use Rattle.httparse.specs.declared.spans.HeaderSpan.{HeaderSpan}
use Rattle.httparse.specs.declared.spans.RequestSpans.{RequestSpans}
use Rattle.httparse.specs.Grammar.{RequestHead}
use Rattle.httparse.specs.Spans.{span_bytes, header_bytes, IsWithin, IsHeaderWithin}
use Rattle.http_frame.specs.declared.types.FrameFault.{FrameFault}
use Rattle.http_frame.specs.declared.head.Plan.{Plan}
use Rattle.http_frame.specs.declared.seen.Seen.{Seen}
use Rattle.http_frame.specs.declared.seen.Seen.TheVariants.{Unfinished, Fault, Good}
use Rattle.http_frame.specs.Heads.{most_head, most_body, framing, HasGoodHead, FailsInHead}
use Rattle.http_frame.specs.Events.{Asks, IsRest}
use Rattle.http_frame.specs.Watched.{IsWatch}
use Rattle.http_frame.specs.Told.{checked_by, facts_at, asks_at, IsPlan, IsFactsOf, IsAskingAs}

-- the first fault of a head whose parts stand at these places, or how its body comes
abbrev pub checked_at : List ℕ → RequestSpans → List HeaderSpan → Result Plan FrameFault
checked_at block spans headers =
    checked_by (span_bytes block spans.method) (span_bytes block spans.path) spans.version (length headers)
    (map (header_bytes block) headers)

-- what is told of a head whose parts stand at these places
abbrev pub IsHeadAt : List ℕ → RequestSpans → List HeaderSpan → Seen → Type 0
IsHeadAt block spans headers (Unfinished watch) = ⊥
IsHeadAt block spans headers (Fault fault) = checked_at block spans headers ≡ Err fault
IsHeadAt block spans headers (Good good) =
    (checked_at block spans headers ≡ Ok good.plan) × (good.facts ≡ facts_at block spans headers)
    × (good.owes ≡ asks_at spans.version block headers good.plan) × (good.len ≡ spans.len)

-- unfinished: nothing to answer yet; a fault of the head; a good head of this length, and what it says
abbrev pub IsSeen : List ℕ → Seen → Type 0
IsSeen bytes (Unfinished watch) =
    IsRest bytes × ¬ (Asks bytes) × (length bytes < most_head) × (watch.seen ≡ length bytes)
    × IsWatch watch bytes
IsSeen bytes (Fault fault) = FailsInHead bytes fault
IsSeen bytes (Good good) =
    (good.len ≤ length bytes)
    × ((head : RequestHead) × HasGoodHead bytes head (drop good.len bytes) × IsFactsOf good.facts head
    × IsPlan (most_body head) (framing head) good.plan × IsAskingAs head good.owes)

-- the same, or there is room for too few fields
abbrev pub IsSeenWith : List ℕ → ℕ → Option Seen → Type 0
IsSeenWith bytes room None = room < 6000
IsSeenWith bytes room (Some seen) = IsSeen bytes seen

-- method, target and fields stand in the block
pub record IsPlaced (block : List ℕ) (spans : RequestSpans) (headers : List HeaderSpan) : Type 0 where
  pub method : IsWithin (length block) spans.method
  pub target : IsWithin (length block) spans.path
  pub headers_fit : All (IsHeaderWithin (length block)) headers
