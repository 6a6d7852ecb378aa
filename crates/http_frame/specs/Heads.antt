-- The head of a request (RFC 9112, 2 to 6): by the grammar of `httparse`; all else is computed from it.
use Rattle.std.specs.Prelude.{◌≡◌, ℕ, ◌≤◌, ◌⊎◌, ◌==◌, ◌||◌, ◌&&◌, not, Bool, true, false, List, [], ◌∷◌, length, map, take, nat_lt, nat_le, if◌then◌else◌, Option, Some, None, IsSome, codes, reverse, bytes_eq}
use Rattle.std.specs.List.{list_all, list_any}
use Rattle.std.specs.Char.{is_ascii_digit}
use Rattle.std.specs.Str.{is_utf8}
use Rattle.std.specs.Str.Parse.{digits_value}
use Rattle.httparse.specs.Grammar.{RequestHead, print_request, ReadsRequest, HasNoRequest, NeverHasRequest}
use Rattle.httparse.specs.Spans.{name_and_value}
use Rattle.http1.specs.Fields.{values_named, elements_named, has_option}
use Rattle.http1.specs.Text.{eq_ignore_case}
use Rattle.bim_model.specs.declared.limits.TheConstants.{MOST_UPLOAD}
use Rattle.http_frame.specs.declared.limits.TheConstants.{MOST_HEAD, MOST_FIELDS, MOST_BODY, MOST_USER, MOST_TURN_DIGITS}
use Rattle.http_frame.specs.declared.types.FrameFault.{FrameFault}
use Rattle.http_frame.specs.declared.types.FrameFault.TheVariants.{BadHead, HeadTooLong, BadLength, BodyTooLong, Version}
use Rattle.http_frame.specs.declared.types.TurnField.{TurnField}
use Rattle.http_frame.specs.declared.types.TurnField.TheVariants as turn

-- ---- the first line

-- a byte before a line, where it is whole
abbrev pub before : ℕ → Option (List ℕ) → Option (List ℕ)
before b None = None
before b (Some bytes) = Some (b ∷ bytes)

-- the bytes before the first LF, where there is one
unfoldable pub line_at : List ℕ → Option (List ℕ)
line_at [] = None
line_at (b ∷ bytes) = if b == 10 then Some [] else before b (line_at bytes)

-- LF stands at the front
abbrev pub begins_lf : List ℕ → Bool
begins_lf [] = false
begins_lf (b ∷ bytes) = b == 10

-- the first line that is not empty, where it is whole; a CR counts to the empty line only where LF follows
unfoldable pub first_line : List ℕ → Option (List ℕ)
first_line [] = None
first_line (b ∷ bytes) =
    if b == 10 || (b == 13 && begins_lf bytes) then first_line bytes else line_at (b ∷ bytes)

-- the last byte first, without the CR of the line's end
abbrev pub without_cr : List ℕ → List ℕ
without_cr [] = []
without_cr (b ∷ bytes) = if b == 13 then bytes else b ∷ bytes

-- from its last byte: digit, point, digit, `/PTTH` and a space; but not 1.0 and 1.1
abbrev pub ends_in_version : List ℕ → Bool
ends_in_version (b ∷ p ∷ a ∷ s ∷ t ∷ u ∷ v ∷ w ∷ x ∷ bytes) =
    is_ascii_digit b && p == 46 && is_ascii_digit a
    && bytes_eq (s ∷ t ∷ u ∷ v ∷ w ∷ x ∷ []) (codes "/PTTH ") && not (a == 49 && (b == 48 || b == 49))
ends_in_version bytes = false

-- the line ends in a version other than 1.0 and 1.1
unfoldable pub has_other_version : Option (List ℕ) → Bool
has_other_version None = false
has_other_version (Some line) = ends_in_version (without_cr (reverse line))

-- ---- what a head says

-- the most bytes of a head
abbrev pub most_head : ℕ
most_head = MOST_HEAD

-- the bytes in which a head may stand
abbrev pub front : List ℕ → List ℕ
front bytes = take most_head bytes

-- the values of the fields with this name, in letters of either case
unfoldable pub values_of : List ℕ → RequestHead → List (List ℕ)
values_of name head = values_named name (map name_and_value head.fields)

-- the first text stands at the front of the second
abbrev pub starts_with : List ℕ → List ℕ → Bool
starts_with [] bytes = true
starts_with (a ∷ text) [] = false
starts_with (a ∷ text) (b ∷ bytes) = a == b && starts_with text bytes

-- the most bytes of a body: more where a model is put
unfoldable pub most_body : RequestHead → ℕ
most_body head =
    if bytes_eq head.method (codes "PUT") && starts_with (codes "/coord/1/") head.target then MOST_UPLOAD
    else MOST_BODY

-- digits alone, at least one
abbrev pub are_digits : List ℕ → Bool
are_digits text = nat_lt 0 (length text) && list_all is_ascii_digit text

-- how the end of a body is told
pub data Framing : Type 0 where
  absent : Framing
  sized : ℕ → Framing
  chunked : Framing
  badly : Framing

-- from the values of Content-Length, those of Transfer-Encoding and the version
abbrev pub framing_by : List (List ℕ) → List (List ℕ) → ℕ → Framing
framing_by [] [] minor = absent
framing_by (length ∷ []) [] minor = if are_digits length then sized (digits_value 10 length) else badly
framing_by [] (coding ∷ []) minor =
    if eq_ignore_case coding (codes "chunked") && minor == 1 then chunked else badly
framing_by lengths codings minor = badly

-- how the end of the body is told after a head
unfoldable pub framing : RequestHead → Framing
framing head =
    framing_by (values_of (codes "content-length") head) (values_of (codes "transfer-encoding") head)
    head.minor

-- the fault of a body that is told so, where up to most bytes are taken
abbrev pub framing_fault : ℕ → Framing → Option FrameFault
framing_fault most absent = None
framing_fault most (sized length) = if nat_lt most length then Some BodyTooLong else None
framing_fault most chunked = None
framing_fault most badly = Some BadLength

-- HTTP/1.1 asks for one Host
abbrev pub lacks_host : RequestHead → Bool
lacks_host head = head.minor == 1 && not (length (values_of (codes "host") head) == 1)

-- the first fault of a whole head
unfoldable pub fault_of : RequestHead → Option FrameFault
fault_of head =
    if lacks_host head then Some BadHead
    else (if nat_lt MOST_FIELDS (length head.fields) then Some HeadTooLong
    else framing_fault (most_body head) (framing head))

-- the head asks for `100 Continue` before the body is read
unfoldable pub asks_continue : RequestHead → Bool
asks_continue head = head.minor == 1 && has_option (codes "100-continue") (values_of (codes "expect") head)

-- the connection is closed after the request
unfoldable pub closes : RequestHead → Bool
closes head =
    head.minor == 0
    || has_option (codes "close") (elements_named (codes "connection") (map name_and_value head.fields))

-- the body is encoded
unfoldable pub is_encoded : RequestHead → Bool
is_encoded head =
    list_any (λ v. not (eq_ignore_case v (codes "identity"))) (values_of (codes "content-encoding") head)

-- the value of the field X-User where it stands once and is a text of 1 to 128 bytes, else `anonymous`
abbrev pub user_by : List (List ℕ) → List ℕ
user_by [] = codes "anonymous"
user_by (user ∷ []) =
    if nat_lt 0 (length user) && nat_le (length user) MOST_USER && is_utf8 user then user
    else codes "anonymous"
user_by (user ∷ other ∷ users) = codes "anonymous"

-- the user that a head names
unfoldable pub user_of : RequestHead → List ℕ
user_of head = user_by (values_of (codes "x-user") head)

-- 1 to 15 digits, as turns are written
abbrev pub is_turn : List ℕ → Bool
is_turn value = are_digits value && nat_le (length value) MOST_TURN_DIGITS

-- the turn that the values of the field X-Book-Turn give: there is one, and it is 1 to 15 digits
abbrev pub turn_by : List (List ℕ) → TurnField
turn_by [] = turn.Absent
turn_by (value ∷ []) = if is_turn value then turn.Given (digits_value 10 value) else turn.Bad
turn_by (value ∷ other ∷ values) = turn.Bad

-- the turn that a head gives
unfoldable pub turn_of : RequestHead → TurnField
turn_of head = turn_by (values_of (codes "x-book-turn") head)

-- ---- what the bytes of a request begin with

-- the first line names another version
abbrev pub HasOtherVersion : List ℕ → Type 0
HasOtherVersion bytes = has_other_version (first_line (front bytes)) ≡ true

-- the first line is whole, and whatever follows, the bytes begin with no head
abbrev pub IsHopeless : List ℕ → Type 0
IsHopeless bytes = IsSome (first_line (front bytes)) × NeverHasRequest (front bytes)

-- the bytes begin with a whole head
abbrev pub HasHead : List ℕ → RequestHead → List ℕ → Type 0
HasHead bytes head rest = ReadsRequest bytes head rest × (length (print_request head) ≤ most_head)

-- as many bytes as a head may have hold none
abbrev pub IsOverlong : List ℕ → Type 0
IsOverlong bytes = (most_head ≤ length bytes) × HasNoRequest (front bytes) × ¬ (IsHopeless bytes)

-- the faults that come with the head, in their order
abbrev pub FailsInHead : List ℕ → FrameFault → Type 0
FailsInHead bytes fault =
    (HasOtherVersion bytes × (fault ≡ Version))
    ⊎ (¬ (HasOtherVersion bytes) × (
    (IsHopeless bytes × (fault ≡ BadHead))
    ⊎ ((IsOverlong bytes × (fault ≡ HeadTooLong))
    ⊎ ((head : RequestHead) × (rest : List ℕ) × HasHead bytes head rest × (fault_of head ≡ Some fault)))))

-- the bytes begin with a head that has no fault
pub record HasGoodHead (bytes : List ℕ) (head : RequestHead) (rest : List ℕ) : Type 0 where
  pub version : ¬ (HasOtherVersion bytes)
  pub whole : HasHead bytes head rest
  pub good : fault_of head ≡ None
