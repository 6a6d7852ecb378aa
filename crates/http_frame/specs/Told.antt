-- What is kept of a whole head.
use Rattle.std.specs.Prelude.{◌≡◌, ℕ, ◌==◌, ◌||◌, ◌&&◌, not, Bool, true, false, List, length, map, nat_lt, if◌then◌else◌, Result, Ok, Err, codes, bytes_eq}
use Rattle.std.specs.List.{list_any}
use Rattle.httparse.specs.declared.spans.HeaderSpan.{HeaderSpan}
use Rattle.httparse.specs.declared.spans.RequestSpans.{RequestSpans}
use Rattle.httparse.specs.Grammar.{RequestHead}
use Rattle.httparse.specs.Spans.{span_bytes, header_bytes}
use Rattle.http1.specs.Fields.{values_named, elements_named, has_option}
use Rattle.bim_model.specs.declared.limits.TheConstants.{MOST_UPLOAD}
use Rattle.http_frame.specs.declared.limits.TheConstants.{MOST_FIELDS, MOST_BODY}
use Rattle.http_frame.specs.declared.types.FrameFault.{FrameFault}
use Rattle.http_frame.specs.declared.types.FrameFault.TheVariants.{BadHead, HeadTooLong, BadLength, BodyTooLong}
use Rattle.http_frame.specs.declared.head.HeadFacts.{HeadFacts}
use Rattle.http_frame.specs.declared.head.Plan.{Plan}
use Rattle.http_frame.specs.declared.head.Plan.TheVariants.{Absent, Sized, Chunked}
use Rattle.http_frame.specs.Heads.{starts_with, Framing, absent, sized, chunked, badly, framing_by, framing, user_by, user_of, turn_by, turn_of, closes, is_encoded, asks_continue}
use Rattle.http_frame.specs.inner.Facts.{has_value, has_other_value, values_at}

-- the most bytes of a body, by method and target
abbrev pub most_by : List ℕ → List ℕ → ℕ
most_by method target =
    if bytes_eq method (codes "PUT") && starts_with (codes "/coord/1/") target then MOST_UPLOAD else MOST_BODY

-- how the body comes, or the fault of its length
abbrev pub plan_of : ℕ → Framing → Result Plan FrameFault
plan_of most absent = Ok Absent
plan_of most (sized n) = if nat_lt most n then Err BodyTooLong else Ok (Sized n)
plan_of most chunked = Ok (Chunked most)
plan_of most badly = Err BadLength

-- HTTP/1.1 asks for one Host
abbrev pub lacks_host : ℕ → List (List ℕ) → Bool
lacks_host minor hosts = minor == 1 && not (length hosts == 1)

-- the first fault, or how the body comes: from method, target, version, number of fields, names and values
unfoldable pub checked_by : List ℕ → List ℕ → ℕ → ℕ → List (List ℕ × List ℕ) → Result Plan FrameFault
checked_by method target minor count fields =
    if lacks_host minor (values_named (codes "host") fields) then Err BadHead
    else (if nat_lt MOST_FIELDS count then Err HeadTooLong
    else plan_of (most_by method target)
    (framing_by (values_named (codes "content-length") fields)
    (values_named (codes "transfer-encoding") fields) minor))

-- what is kept, from where it stands
unfoldable pub facts_at : List ℕ → RequestSpans → List HeaderSpan → HeadFacts
facts_at block spans headers = record {
  method = span_bytes block spans.method;
  target = span_bytes block spans.path;
  minor = spans.version;
  user = user_by (values_at (codes "x-user") block headers);
  close = spans.version == 0
      || has_option (codes "close") (elements_named (codes "connection") (map (header_bytes block) headers));
  encoded = list_any (has_other_value (codes "content-encoding") (codes "identity"))
      (map (header_bytes block) headers);
  seen = turn_by (values_at (codes "x-book-turn") block headers);
}

-- there is a body, maybe of no bytes
abbrev pub has_body : Plan → Bool
has_body Absent = false
has_body (Sized n) = true
has_body (Chunked most) = true

-- `100 Continue` is asked for before a body
abbrev pub asks_at : ℕ → List ℕ → List HeaderSpan → Plan → Bool
asks_at minor block headers plan =
    minor == 1
    && list_any (has_value (codes "expect") (codes "100-continue")) (map (header_bytes block) headers)
    && has_body plan

-- the plan is for bodies of this framing, up to most bytes
abbrev pub IsPlan : ℕ → Framing → Plan → Type 0
IsPlan most how Absent = how ≡ absent
IsPlan most how (Sized n) = how ≡ sized n
IsPlan most how (Chunked room) = (how ≡ chunked) × (room ≡ most)

-- what is kept of this head
pub record IsFactsOf (facts : HeadFacts) (head : RequestHead) : Type 0 where
  pub method : facts.method ≡ head.method
  pub target : facts.target ≡ head.target
  pub minor : facts.minor ≡ head.minor
  pub user : facts.user ≡ user_of head
  pub close : facts.close ≡ closes head
  pub encoded : facts.encoded ≡ is_encoded head
  pub seen : facts.seen ≡ turn_of head

-- the head asks for `100 Continue`, and has a body
abbrev pub IsAsking : RequestHead → Type 0
IsAsking head = (asks_continue head ≡ true) × ¬ (framing head ≡ absent)

-- whether it is
abbrev pub IsAskingAs : RequestHead → Bool → Type 0
IsAskingAs head true = IsAsking head
IsAskingAs head false = ¬ (IsAsking head)
