-- The body after a head (RFC 9112, 6 and 7.1).
use Rattle.std.specs.Prelude.{◌≡◌, ℕ, ◌-◌, ◌<◌, ◌≤◌, ◌⊎◌, List, [], ◌∷◌, ◌++◌, length, IsSome}
use Rattle.std.specs.List.{flat_map}
use Rattle.httparse.specs.Ascii.{crlf_bytes}
use Rattle.httparse.specs.Grammar.{ChunkLine, ReadsChunkLine, chunk_size, print_extension, Field, LineEnd, print_section, ReadsSection, HasNoSection}
use Rattle.httparse.specs.Pieces.{FieldLines, BeginsLine}
use Rattle.http_frame.specs.declared.limits.TheConstants.{MOST_FIELDS}
use Rattle.http_frame.specs.declared.types.FrameFault.{FrameFault}
use Rattle.http_frame.specs.declared.types.FrameFault.TheVariants.{HeadTooLong, BodyTooLong, BadChunk}
use Rattle.http_frame.specs.Heads.{Framing, absent, sized, chunked, badly, most_head, front, line_at}

-- a line before a chunk: one of `httparse` without blanks, of up to 8 digits and 256 bytes of extension
pub record IsSizeLine (l : ChunkLine) : Type 0 where
  pub no_pad : l.pad ≡ []
  pub few : length l.digits ≤ 8
  pub short : length (print_extension l.extension) ≤ 257

-- the text is the line and then rest
abbrev pub ReadsSize : List ℕ → ChunkLine → List ℕ → Type 0
ReadsSize text l rest = IsSizeLine l × ReadsChunkLine text l rest

-- whatever follows, the text begins with no such line
abbrev pub NeverHasSize : List ℕ → Type 0
NeverHasSize text = (more : List ℕ) (l : ChunkLine) (rest : List ℕ) → ¬ (ReadsSize (text ++ more) l rest)

-- the text is one chunk that is not empty, and then rest
pub record ReadsChunk (text content rest : List ℕ) : Type 0 where
  pub line : ChunkLine
  pub behind : List ℕ
  pub reads : ReadsSize text line behind
  pub some : 0 < length content
  pub size_is : chunk_size line ≡ length content
  pub whole : behind ≡ content ++ (crlf_bytes ++ rest)

-- the text is chunks with these contents, up to most bytes together, and then rest
abbrev pub ReadsChunks : ℕ → List ℕ → List (List ℕ) → List ℕ → Type 0
ReadsChunks most text [] rest = text ≡ rest
ReadsChunks most text (content ∷ contents) rest =
    (length content ≤ most)
    × ((behind : List ℕ) × ReadsChunk text content behind
    × ReadsChunks (most - length content) behind contents rest)

-- the bytes that the contents leave of most
abbrev pub room_left : ℕ → List (List ℕ) → ℕ
room_left most [] = most
room_left most (content ∷ contents) = room_left (most - length content) contents

-- the text begins with the line of the last chunk
abbrev pub ReadsLast : List ℕ → List ℕ → Type 0
ReadsLast text rest = (l : ChunkLine) × ReadsSize text l rest × (chunk_size l ≡ 0)

-- field lines, and then a whole line that is no field and not empty, whatever follows
pub record HasBadTrailer (text : List ℕ) : Type 0 where
  pub fields : List Field
  pub rest : List ℕ
  pub lines : FieldLines fields text rest
  pub whole : IsSome (line_at rest)
  pub no_line : (more : List ℕ) → ¬ (BeginsLine (rest ++ more))

-- the trailers and their empty line, within the numbers of a head
pub record ReadsTrailers (text rest : List ℕ) : Type 0 where
  pub fields : List Field
  pub last : LineEnd
  pub reads : ReadsSection text fields last rest
  pub short : length (print_section fields last) ≤ most_head
  pub few : length fields ≤ MOST_FIELDS

-- trailers that exceed those numbers
abbrev pub HasLongTrailers : List ℕ → Type 0
HasLongTrailers text =
    ((most_head ≤ length text) × HasNoSection (front text) × ¬ (HasBadTrailer (front text)))
    ⊎ ((fields : List Field) × (last : LineEnd) × (rest : List ℕ) × ReadsSection text fields last rest
    × (length (print_section fields last) ≤ most_head) × (MOST_FIELDS < length fields))

-- the text begins with this body
abbrev pub ReadsBody : ℕ → Framing → List ℕ → List ℕ → List ℕ → Type 0
ReadsBody most absent text body rest = (body ≡ []) × (text ≡ rest)
ReadsBody most (sized n) text body rest = (length body ≡ n) × (text ≡ body ++ rest)
ReadsBody most chunked text body rest =
    (contents : List (List ℕ)) × (last : List ℕ) × (trailers : List ℕ)
    × ReadsChunks most text contents last × ReadsLast last trailers × ReadsTrailers trailers rest
    × (body ≡ flat_map (λ content. content) contents)
ReadsBody most badly text body rest = ⊥

-- the line of the next chunk exceeds what room is left
abbrev pub Exceeds : ℕ → List ℕ → Type 0
Exceeds room text = (l : ChunkLine) × (rest : List ℕ) × ReadsSize text l rest × (room < chunk_size l)

-- a chunk within the room is not followed by CR LF: a byte that stands there is another
pub record LacksEnd (room : ℕ) (text : List ℕ) : Type 0 where
  pub line : ChunkLine
  pub content : List ℕ
  pub after : List ℕ
  pub reads : ReadsSize text line (content ++ after)
  pub some : 0 < length content
  pub size_is : chunk_size line ≡ length content
  pub fits : length content ≤ room
  pub never : (more rest : List ℕ) → ¬ (after ++ more ≡ crlf_bytes ++ rest)

-- the fault with which the text after whole chunks begins
abbrev pub FailsInChunk : ℕ → List ℕ → FrameFault → Type 0
FailsInChunk room text fault =
    (NeverHasSize text × (fault ≡ BadChunk))
    ⊎ ((Exceeds room text × (fault ≡ BodyTooLong))
    ⊎ ((LacksEnd room text × (fault ≡ BadChunk))
    ⊎ ((rest : List ℕ) × ReadsLast text rest
    × ((HasBadTrailer (front rest) × (fault ≡ BadChunk)) ⊎ (HasLongTrailers rest × (fault ≡ HeadTooLong))))))

-- the fault of a body
abbrev pub FailsInBody : ℕ → Framing → List ℕ → FrameFault → Type 0
FailsInBody most absent text fault = ⊥
FailsInBody most (sized n) text fault = ⊥
FailsInBody most chunked text fault =
    (contents : List (List ℕ)) × (last : List ℕ)
    × ReadsChunks most text contents last × FailsInChunk (room_left most contents) last fault
FailsInBody most badly text fault = ⊥
