-- A chunked body byte by byte, and what each place in it stands for.
use Rattle.std.specs.Prelude.{◌≡◌, ℕ, ◌+◌, ◌-◌, ◌*◌, ◌^◌, ◌<◌, ◌≤◌, ◌==◌, min, nat_lt, nat_le, Bool, true, false, List, [], ◌∷◌, ◌++◌, length, take, drop, if◌then◌else◌, None}
use Rattle.std.specs.List.{flat_map}
use Rattle.std.specs.Char.{is_ascii_hexdigit, digit_value}
use Rattle.std.specs.Str.Parse.{digits_value}
use Rattle.httparse.specs.Grammar.{ChunkLine, chunk_size, Field}
use Rattle.httparse.specs.Pieces.{FieldLines}
use Rattle.http_frame.specs.declared.limits.TheConstants.{MOST_HEAD, MOST_FIELDS}
use Rattle.http_frame.specs.declared.types.FrameFault.TheVariants.{HeadTooLong, BodyTooLong, BadChunk}
use Rattle.http_frame.specs.declared.field_lines.Place.{Place}
use Rattle.http_frame.specs.declared.field_lines.Place.TheVariants as place
use Rattle.http_frame.specs.declared.size_line.SizeSpot.{SizeSpot}
use Rattle.http_frame.specs.declared.size_line.SizeSpot.TheVariants as spot
use Rattle.http_frame.specs.declared.chunks.Part.{Part}
use Rattle.http_frame.specs.declared.chunks.Part.TheVariants.{Size, Data, Lf, Trailers}
use Rattle.http_frame.specs.declared.chunks.ChunkStep.{ChunkStep}
use Rattle.http_frame.specs.declared.chunks.ChunkStep.TheVariants as step
use Rattle.http_frame.specs.declared.chunks.ChunkEnd.{ChunkEnd}
use Rattle.http_frame.specs.declared.chunks.ChunkEnd.TheVariants as end
use Rattle.http_frame.specs.declared.chunks.Taken.{Taken}
use Rattle.http_frame.specs.Heads.{chunked, line_at, most_head}
use Rattle.http_frame.specs.Bodies.{ReadsSize, ReadsChunks, room_left, ReadsLast, ReadsBody, FailsInBody}
use Rattle.http_frame.specs.Scan as scan
use Rattle.http_frame.specs.ChunkSizes.{size_step, size_run}

-- ---- what a byte does

-- the number of the digits, with one byte more; it is kept below 2 ^ 64
abbrev pub value_step : SizeSpot → ℕ → ℕ → ℕ
value_step (spot.Digits n) value b =
    if is_ascii_hexdigit b then min (min (value * 16) (2 ^ 64 - 1) + digit_value b) (2 ^ 64 - 1) else value
value_step (spot.Extension n) value b = value
value_step spot.Cr value b = value
value_step spot.Whole value b = value
value_step spot.Wrong value b = value

-- from the place in the line before a chunk
abbrev pub size_turn : SizeSpot → ℕ → ℕ → ChunkStep
size_turn (spot.Digits n) value room = step.On (Size (spot.Digits n) value) room
size_turn (spot.Extension n) value room = step.On (Size (spot.Extension n) value) room
size_turn spot.Cr value room = step.On (Size spot.Cr value) room
size_turn spot.Whole value room =
    if value == 0 then step.On (Trailers place.Start 0 0) room
    else (if nat_lt room value then step.Fault BodyTooLong else step.On (Data value) (room - value))
size_turn spot.Wrong value room = step.Fault BadChunk

-- one more byte of trailers that don't end with it
abbrev pub trailers_on : Place → ℕ → ℕ → ℕ → ChunkStep
trailers_on here fields count room =
    if nat_le (MOST_HEAD - 1) count then step.Fault HeadTooLong
    else step.On (Trailers here fields (count + 1)) room

-- from the place after a byte of the trailers, and whether it was LF
abbrev pub trailer_turn : Place → ℕ → ℕ → ℕ → Bool → ChunkStep
trailer_turn place.Start fields count room lf =
    trailers_on place.Start (min fields MOST_FIELDS + 1) count room
trailer_turn place.Name fields count room lf = trailers_on place.Name fields count room
trailer_turn place.Value fields count room lf = trailers_on place.Value fields count room
trailer_turn place.Cr fields count room lf = trailers_on place.Cr fields count room
trailer_turn place.Last fields count room lf = trailers_on place.Last fields count room
trailer_turn place.Done fields count room lf =
    if nat_lt MOST_FIELDS fields then step.Fault HeadTooLong else step.Whole
trailer_turn place.Dead fields count room lf =
    if lf then step.Fault BadChunk else trailers_on place.Dead fields count room

-- what a byte does that is none of a chunk's content
abbrev pub chunk_step : Part → ℕ → ℕ → ChunkStep
chunk_step (Size s value) room b = size_turn (size_step s b) (value_step s value b) room
chunk_step (Data left) room b = if b == 13 then step.On Lf room else step.Fault BadChunk
chunk_step Lf room b = if b == 10 then step.On (Size (spot.Digits 0) 0) room else step.Fault BadChunk
chunk_step (Trailers here fields count) room b = trailer_turn (scan.step here b) fields count room (b == 10)

-- how many bytes the chunk lacks
abbrev pub data_left : Part → ℕ
data_left (Size s value) = 0
data_left (Data left) = left
data_left Lf = 0
data_left (Trailers here fields count) = 0

-- the reading has met the end of the body or a fault
abbrev pub is_over : ChunkEnd → Bool
is_over end.More = false
is_over end.Whole = true
is_over (end.Fault fault) = true

-- ---- what a place stands for

-- the digits at the front
abbrev pub hex_front : List ℕ → List ℕ
hex_front [] = []
hex_front (b ∷ bytes) = if is_ascii_hexdigit b then b ∷ hex_front bytes else []

-- neither the end of the line nor a byte that no right line has there was met
abbrev pub IsInLine : SizeSpot → Type 0
IsInLine (spot.Digits n) = Unit {0}
IsInLine (spot.Extension n) = Unit {0}
IsInLine spot.Cr = Unit {0}
IsInLine spot.Whole = ⊥
IsInLine spot.Wrong = ⊥

-- a chunk that is not empty, whose line and first bytes came, the bytes after it, and the room with it
pub record IsInChunk (all room left : ℕ) (text content after : List ℕ) : Type 0 where
  pub line : ChunkLine
  pub reads : ReadsSize text line (content ++ after)
  pub size_is : chunk_size line ≡ length content + left
  pub some : 0 < chunk_size line
  pub fits : room + chunk_size line ≡ all

-- trailers that did not end: whole field lines, and a line without its LF
pub record IsInTrailers (here : Place) (fields count : ℕ) (text : List ℕ) : Type 0 where
  pub lines : List Field
  pub line : List ℕ
  pub reads : FieldLines lines text line
  pub open_line : line_at line ≡ None
  pub place_is : here ≡ scan.run place.Start line
  pub fields_are : fields ≡ min (length lines) 65
  pub count_is : count ≡ length text
  pub short : length text < most_head

-- what of the text after whole chunks leads to a place: the room left behind them, the next chunk's content
abbrev pub IsPart : Part → ℕ → ℕ → List ℕ → List ℕ → Type 0
IsPart (Size s value) all room text content =
    (content ≡ []) × (room ≡ all) × (s ≡ size_run (spot.Digits 0) text) × IsInLine s
    × (value ≡ digits_value 16 (hex_front text))
IsPart (Data left) all room text content = IsInChunk all room left text content []
IsPart Lf all room text content = IsInChunk all room 0 text content (13 ∷ [])
IsPart (Trailers here fields count) all room text content =
    (content ≡ []) × ((trailers : List ℕ) × ReadsLast text trailers × IsInTrailers here fields count trailers)

-- the text is whole chunks within most, and then leads to the place; these are the contents so far
pub record IsReading (most : ℕ) (text content : List ℕ) (part : Part) (room : ℕ) : Type 0 where
  pub contents : List (List ℕ)
  pub last : List ℕ
  pub begun : List ℕ
  pub chunks : ReadsChunks most text contents last
  pub part_is : IsPart part (room_left most contents) room last begun
  pub content_is : content ≡ flat_map (λ c. c) contents ++ begun

-- what a reading of this text tells
abbrev pub IsTaken : ℕ → List ℕ → List ℕ → Part → ℕ → ChunkEnd → Type 0
IsTaken most text content part room end.More = IsReading most text content part room
IsTaken most text content part room end.Whole = ReadsBody most chunked text content []
IsTaken most text content part room (end.Fault fault) = FailsInBody most chunked text fault

-- ---- readings of a buffer

-- the contents stand before the place, and it is in the buffer
abbrev pub IsOrdered : Taken → ℕ → Type 0
IsOrdered taken size = (taken.chunks.filled ≤ taken.at) × (taken.at ≤ size)

-- from one reading to the next: some text was taken, and the rest is the same
unfoldable pub Advances : List ℕ → Taken → List ℕ → Taken → Type 0
Advances before old after new =
    (most : ℕ) (text : List ℕ)
    → IsReading most text (take old.chunks.filled before) old.chunks.part old.chunks.room
    → (more : List ℕ) × (drop old.at before ≡ more ++ drop new.at after)
    × IsTaken most (text ++ more) (take new.chunks.filled after) new.chunks.part new.chunks.room new.end
