-- Errors as JSON data: a code, the code and its name, and the fields of the fault.
use Rattle.std.specs.Prelude.{ℕ, ◌++◌, List, codes}
use Rattle.serde_json.specs.Data.{Data, number, string, object, unsigned, member, no_members}

-- a code and a name after it
abbrev pub message : List ℕ → List ℕ → List ℕ
message code name = code ++ codes " " ++ name

-- an error without fields
unfoldable pub error_tree : List ℕ → List ℕ → Data
error_tree code name =
    object (member (codes "code") (string code)
    (member (codes "message") (string (message code name)) no_members))

-- an error at a place of the bytes
unfoldable pub error_at : List ℕ → List ℕ → ℕ → Data
error_at code name at =
    object (member (codes "at") (number (unsigned at))
    (member (codes "code") (string code)
    (member (codes "message") (string (message code name)) no_members)))

-- an error of an instance
unfoldable pub error_of : List ℕ → List ℕ → ℕ → Data
error_of code name id =
    object (member (codes "code") (string code)
    (member (codes "id") (number (unsigned id))
    (member (codes "message") (string (message code name)) no_members)))

-- an error of an instance that refers to another
unfoldable pub error_to : List ℕ → List ℕ → ℕ → ℕ → Data
error_to code name id to =
    object (member (codes "code") (string code)
    (member (codes "id") (number (unsigned id))
    (member (codes "message") (string (message code name))
    (member (codes "to") (number (unsigned to)) no_members))))

-- an error of too many
unfoldable pub error_many : List ℕ → List ℕ → List ℕ → Data
error_many code name what =
    object (member (codes "code") (string code)
    (member (codes "message") (string (message code name))
    (member (codes "what") (string what) no_members)))

-- an error of something by its name
unfoldable pub error_named : List ℕ → List ℕ → List ℕ → Data
error_named code name what =
    object (member (codes "code") (string code)
    (member (codes "message") (string (message code name))
    (member (codes "name") (string what) no_members)))

-- an error of an item of a list, by its place from 0
unfoldable pub error_index : List ℕ → List ℕ → ℕ → Data
error_index code name index =
    object (member (codes "code") (string code)
    (member (codes "index") (number (unsigned index))
    (member (codes "message") (string (message code name)) no_members)))

-- an error of so many things
unfoldable pub error_count : List ℕ → List ℕ → ℕ → Data
error_count code name count =
    object (member (codes "code") (string code)
    (member (codes "count") (number (unsigned count))
    (member (codes "message") (string (message code name)) no_members)))

-- an error of a place, of so many
unfoldable pub error_place : List ℕ → List ℕ → ℕ → ℕ → Data
error_place code name place total =
    object (member (codes "code") (string code)
    (member (codes "message") (string (message code name))
    (member (codes "place") (number (unsigned place))
    (member (codes "total") (number (unsigned total)) no_members))))

-- an error of a turn that is given, in another turn
unfoldable pub error_turn : List ℕ → List ℕ → ℕ → ℕ → Data
error_turn code name given turn =
    object (member (codes "code") (string code)
    (member (codes "given") (number (unsigned given))
    (member (codes "message") (string (message code name))
    (member (codes "turn") (number (unsigned turn)) no_members))))

-- an error of more than there may be
unfoldable pub error_full : List ℕ → List ℕ → ℕ → ℕ → Data
error_full code name count limit =
    object (member (codes "code") (string code)
    (member (codes "count") (number (unsigned count))
    (member (codes "limit") (number (unsigned limit))
    (member (codes "message") (string (message code name)) no_members))))

-- the same of a kind of things
unfoldable pub error_store : List ℕ → List ℕ → ℕ → ℕ → List ℕ → Data
error_store code name count limit what =
    object (member (codes "code") (string code)
    (member (codes "count") (number (unsigned count))
    (member (codes "limit") (number (unsigned limit))
    (member (codes "message") (string (message code name))
    (member (codes "what") (string what) no_members)))))

-- an error of a version that is above the newest
unfoldable pub error_newest : List ℕ → List ℕ → ℕ → Data
error_newest code name newest =
    object (member (codes "code") (string code)
    (member (codes "message") (string (message code name))
    (member (codes "newest") (number (unsigned newest)) no_members)))

-- an error of a version, beside the newest one
unfoldable pub error_version : List ℕ → List ℕ → ℕ → ℕ → Data
error_version code name newest version =
    object (member (codes "code") (string code)
    (member (codes "message") (string (message code name))
    (member (codes "newest") (number (unsigned newest))
    (member (codes "version") (number (unsigned version)) no_members))))
