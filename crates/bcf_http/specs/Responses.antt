-- Responses, byte for byte (RFC 9112, 4 and 6; RFC 9110, 15).
use Rattle.std.specs.Prelude.{ℕ, ◌++◌, List, [], length, Bool, if◌then◌else◌, Option, Some, None, unwrap_or, codes, decimal}
use Rattle.http.specs.StatusCode.{code_digits, reason_phrase}
use Rattle.serde_json.specs.Data.{Data}
use Rattle.serde_json.specs.Written.{compact_text}
use Rattle.http_routes.specs.declared.paths.RoutePath.{RoutePath}
use Rattle.http_routes.specs.Paths.{joined, methods_of}

-- the status, with the phrase that the crate http gives to it
unfoldable pub status_line : ℕ → List ℕ
status_line status =
    codes "HTTP/1.1 " ++ code_digits status ++ codes " " ++ unwrap_or (reason_phrase status) []
    ++ codes "\r\n"

-- each body is JSON
abbrev pub type_line : List ℕ
type_line = codes "Content-Type: application/json\r\n"

-- the methods of the row, where it lacks the one that was asked for
unfoldable pub allow_line : Option RoutePath → List ℕ
allow_line None = []
allow_line (Some row) = codes "Allow: " ++ joined (methods_of row) ++ codes "\r\n"

-- the turn that the request took, if it took one
unfoldable pub turn_line : Option ℕ → List ℕ
turn_line None = []
turn_line (Some turn) = codes "X-Book-Turn: " ++ decimal turn ++ codes "\r\n"

-- the connection is closed after the response
unfoldable pub close_line : Bool → List ℕ
close_line close = if close then codes "Connection: close\r\n" else []

-- how many bytes the body has, and the empty line that ends the head
unfoldable pub length_line : ℕ → List ℕ
length_line n = codes "Content-Length: " ++ decimal n ++ codes "\r\n\r\n"

-- the body, which a reply to HEAD leaves out
abbrev pub body_part : Bool → List ℕ → List ℕ
body_part head text = if head then [] else text

-- the lines before the body, for a turn or none
unfoldable pub head_text : Option ℕ → Bool → ℕ → Option RoutePath → ℕ → List ℕ
head_text turn close status allow length =
    status_line status ++ type_line ++ allow_line allow ++ turn_line turn ++ close_line close
    ++ length_line length

-- the response with this text as its body
unfoldable pub response_text : Option ℕ → Bool → Bool → ℕ → Option RoutePath → List ℕ → List ℕ
response_text turn close head status allow text =
    head_text turn close status allow (length text) ++ body_part head text

-- the response whose body is the tree as compact text, as serde_json writes it
abbrev pub response_bytes : Option ℕ → Bool → Bool → ℕ → Option RoutePath → Data → List ℕ
response_bytes turn close head status allow tree =
    response_text turn close head status allow (compact_text tree)
