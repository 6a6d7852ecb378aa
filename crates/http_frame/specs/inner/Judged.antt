-- What the parser tells of bytes whose first line is whole.
use Rattle.std.specs.Prelude.{ℕ, ◌<◌, Bool, true, false, List, length}
use Rattle.httparse.specs.declared.Error.{Error}
use Rattle.httparse.specs.declared.Error.TheVariants.{HeaderName, HeaderValue, NewLine, Status, Token, TooManyHeaders, Version}
use Rattle.httparse.specs.declared.spans.HeaderSpan.{HeaderSpan}
use Rattle.httparse.specs.Grammar.{HasNoRequest, NeverHasRequest, MayBecomeRequest}
use Rattle.httparse.specs.Spans.{IsRequestOf, IsRequestWithin}
use Rattle.http_frame.specs.declared.parser.Judged.{Judged}
use Rattle.http_frame.specs.declared.parser.Judged.TheVariants.{Open, Never, Head, Crowded}

-- open: no head yet, but more bytes make one; never: no head, whatever follows; a head: where its parts stand
abbrev pub IsJudged : List ℕ → List HeaderSpan → Judged → Type 0
IsJudged front headers Open = HasNoRequest front × MayBecomeRequest front
IsJudged front headers Never = NeverHasRequest front
IsJudged front headers (Head spans) = IsRequestOf front headers spans × IsRequestWithin front headers spans
IsJudged front headers Crowded = length headers < 6000

-- the parser lacks room
abbrev pub is_crowded : Error → Bool
is_crowded HeaderName = false
is_crowded HeaderValue = false
is_crowded NewLine = false
is_crowded Status = false
is_crowded Token = false
is_crowded TooManyHeaders = true
is_crowded Version = false
