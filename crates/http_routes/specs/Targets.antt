-- The target of a request: its path and its query (RFC 9112, 3.2; RFC 3986, 3).
use Rattle.std.specs.Prelude.{ℕ, ◌==◌, ◌+◌, List, [], take, drop, Bool, if◌then◌else◌, Option, Some, None, option_map, codes, bytes_eq}
use Rattle.std.specs.List.{position}

-- a question mark
abbrev pub is_question : ℕ → Bool
is_question byte = byte == 63

-- a slash
abbrev pub is_slash : ℕ → Bool
is_slash byte = byte == 47

-- what stands before a place and after it, or all and nothing
abbrev pub parted : List ℕ → Option ℕ → List ℕ × List ℕ
parted target None = (target, [])
parted target (Some place) = (take place target, drop (place + 1) target)

-- what stands before the first question mark, and the query, which stands behind it
unfoldable pub split_target : List ℕ → List ℕ × List ℕ
split_target target = parted target (position is_question target)

-- the query of a target
abbrev pub query_of : List ℕ → List ℕ
query_of target = (split_target target).1

-- the text from its first slash on, where it has one
unfoldable pub from_slash : List ℕ → Option (List ℕ)
from_slash text = option_map (λ place. drop place text) (position is_slash text)

-- the path of what stands before the query; in absolute form the host comes before it
abbrev pub path_in : List ℕ → Option (List ℕ)
path_in text = if bytes_eq (take 7 text) (codes "http://") then from_slash (drop 7 text) else Some text

-- the path of a target, where it has one
abbrev pub path_of : List ℕ → Option (List ℕ)
path_of target = path_in (split_target target).0
