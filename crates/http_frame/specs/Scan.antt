-- Field lines byte by byte.
use Rattle.std.specs.Prelude.{ℕ, ◌==◌, List, [], ◌∷◌, if◌then◌else◌, ⊤}
use Rattle.httparse.specs.Grammar.{is_token_byte, is_value_byte}
use Rattle.httparse.specs.Grammar.{LineEnd}
use Rattle.httparse.specs.Pieces.{RequestStart}
use Rattle.http_frame.specs.declared.field_lines.Spot.{Spot}
use Rattle.http_frame.specs.declared.field_lines.Spot.TheVariants.{Before, BeforeCr, Line, Fields}
use Rattle.http_frame.specs.declared.field_lines.Place.{Place}
use Rattle.http_frame.specs.declared.field_lines.Place.TheVariants.{Start, Name, Value, Cr, Last, Done, Dead}
use Rattle.http_frame.specs.Heads.{begins_lf}
use Rattle.std.specs.Prelude.{◌||◌, ◌&&◌}

-- where the byte after this one stands
abbrev pub step : Place → ℕ → Place
step Start b = if b == 13 then Last else (if b == 10 then Done else (if is_token_byte b then Name else Dead))
step Name b = if b == 58 then Value else (if is_token_byte b then Name else Dead)
step Value b = if b == 13 then Cr else (if b == 10 then Start else (if is_value_byte b then Value else Dead))
step Cr b = if b == 10 then Start else Dead
step Last b = if b == 10 then Done else Dead
step Done b = Done
step Dead b = Dead

-- where these bytes lead
abbrev pub run : Place → List ℕ → Place
run place [] = place
run place (b ∷ bytes) = run (step place b) bytes

-- neither the end nor a byte that no field line has there was met
abbrev pub IsOpen : Place → Type 0
IsOpen Start = ⊤
IsOpen Name = ⊤
IsOpen Value = ⊤
IsOpen Cr = ⊤
IsOpen Last = ⊤
IsOpen Done = ⊥
IsOpen Dead = ⊥

-- the bytes after the first LF
abbrev pub after_lf : List ℕ → List ℕ
after_lf [] = []
after_lf (b ∷ bytes) = if b == 10 then bytes else after_lf bytes

-- the bytes after the first line that is not empty
unfoldable pub after_line : List ℕ → List ℕ
after_line [] = []
after_line (b ∷ bytes) =
    if b == 10 || (b == 13 && begins_lf bytes) then after_line bytes else after_lf (b ∷ bytes)

-- empty lines, method, target, version and line end of a first line
abbrev pub Parts : Type 0
Parts = List LineEnd × (List ℕ × (List ℕ × (ℕ × LineEnd)))

-- the first line is one of the grammar, and the field lines follow
abbrev pub IsStarted : List ℕ → Type 0
IsStarted bytes = ∥ ((p : Parts) × RequestStart p bytes (after_line bytes)) ∥₁

-- from the front of a request on
abbrev pub spot_step : Spot → ℕ → Spot
spot_step Before b = if b == 13 then BeforeCr else (if b == 10 then Before else Line)
spot_step BeforeCr b = if b == 10 then Before else Line
spot_step Line b = if b == 10 then Fields Start else Line
spot_step (Fields place) b = Fields (step place b)

-- where these bytes lead from a spot
abbrev pub spot_run : Spot → List ℕ → Spot
spot_run spot [] = spot
spot_run spot (b ∷ bytes) = spot_run (spot_step spot b) bytes

-- the first line was asked of the parser
abbrev pub IsAsked : Spot → List ℕ → Type 0
IsAsked Before bytes = ⊤
IsAsked BeforeCr bytes = ⊤
IsAsked Line bytes = ⊤
IsAsked (Fields place) bytes = IsStarted bytes
