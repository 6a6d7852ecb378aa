-- A head while its bytes come.
use Rattle.std.specs.Prelude.{◌≡◌, ℕ, ◌<◌, List, length, Bool, true, false, IsSome}
use Rattle.httparse.specs.declared.spans.HeaderSpan.{HeaderSpan}
use Rattle.httparse.specs.Grammar.{HasNoRequest, NeverHasRequest}
use Rattle.httparse.specs.Spans.{IsRequestOf, IsRequestWithin}
use Rattle.http_frame.specs.declared.parser.Judged.{Judged}
use Rattle.http_frame.specs.declared.parser.Judged.TheVariants.{Open, Never, Head, Crowded}
use Rattle.http_frame.specs.declared.field_lines.Place.{Place}
use Rattle.http_frame.specs.declared.field_lines.Place.TheVariants as place
use Rattle.http_frame.specs.declared.field_lines.Spot.{Spot}
use Rattle.http_frame.specs.declared.field_lines.Spot.TheVariants.{Before, BeforeCr, Line, Fields}
use Rattle.http_frame.specs.declared.watch.Watch.{Watch}
use Rattle.http_frame.specs.declared.watch.Look.{Look}
use Rattle.http_frame.specs.declared.watch.Look.TheVariants as look
use Rattle.http_frame.specs.Heads.{first_line}
use Rattle.http_frame.specs.Scan.{spot_run, IsAsked}

-- the first line is not whole
abbrev pub is_early : Spot → Bool
is_early Before = true
is_early BeforeCr = true
is_early Line = true
is_early (Fields p) = false

-- neither the end nor a byte that no field line has there was met
abbrev pub is_open_place : Place → Bool
is_open_place place.Start = true
is_open_place place.Name = true
is_open_place place.Value = true
is_open_place place.Cr = true
is_open_place place.Last = true
is_open_place place.Done = false
is_open_place place.Dead = false

-- the same from the front of a request on
abbrev pub is_open : Spot → Bool
is_open Before = true
is_open BeforeCr = true
is_open Line = true
is_open (Fields p) = is_open_place p

-- what is told where the parser answers so
abbrev pub look_of : Judged → Look
look_of Open = look.Unfinished
look_of Never = look.Hopeless
look_of (Head spans) = look.Whole spans
look_of Crowded = look.Crowded

-- the spot is where the bytes taken lead, and their first line was asked of the parser where it is whole
abbrev pub IsWatch : Watch → List ℕ → Type 0
IsWatch watch taken = (watch.spot ≡ spot_run Before taken) × IsAsked watch.spot taken

-- unfinished: no head, but hope; hopeless: a whole first line and no head ever; crowded: little room
abbrev pub IsLook : List ℕ → List HeaderSpan → Look → Type 0
IsLook front headers look.Unfinished =
    HasNoRequest front × ¬ (IsSome (first_line front) × NeverHasRequest front)
IsLook front headers look.Hopeless = IsSome (first_line front) × NeverHasRequest front
IsLook front headers (look.Whole spans) =
    IsRequestOf front headers spans × IsRequestWithin front headers spans
IsLook front headers look.Crowded = length headers < 6000
