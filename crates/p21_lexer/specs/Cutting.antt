use Rattle.std.specs.Prelude.{◌≡◌, ℕ, ◌-◌, ◌<◌, ◌≤◌, List, [], ◌∷◌, length, take, drop, Option, Some, None, Result, Ok, Err, Bool, false, ◌&&◌, ◌==◌, if◌then◌else◌}
use Rattle.p21_lexer.specs.declared.token.TokenKind.{TokenKind}
use Rattle.p21_lexer.specs.declared.token.Token.{Token}
use Rattle.p21_lexer.specs.declared.token.LexFault.{LexFault}
use Rattle.p21_lexer.specs.declared.token.LexFault.TheVariants.{BadToken}
use Rattle.p21_lexer.specs.Spelling.{Spells}
use Rattle.p21_lexer.specs.TokenSeparators.{Skips}

-- How bytes are cut into tokens: from the left, the longest spelling each time (ISO 10303-21, section 6).

-- the first n bytes spell a token of this kind, and no more bytes of the front spell any
pub record IsFirst (bs : List ℕ) (kind : TokenKind) (n : ℕ) : Type 0 where
  pub within : n ≤ length bs
  pub spelled : Spells kind (take n bs)
  pub longest : (other : TokenKind) (m : ℕ) → m ≤ length bs → Spells other (take m bs) → m ≤ n

-- no token begins here
abbrev pub HasNone : List ℕ → Type 0
HasNone bs = (kind : TokenKind) (m : ℕ) → m ≤ length bs → Spells kind (take m bs) → ⊥

-- a place in bytes
pub record Place : Type 0 where
  pub bytes : List ℕ
  pub at : ℕ

-- from this place on the next stop is at that one
abbrev pub StopsAt : List ℕ → ℕ → ℕ → Type 0
StopsAt bytes from at = (at ≤ length bytes) × Skips (drop from bytes) (drop at bytes)

-- from this place on: the token that is cut next, the end of the bytes, or a stop where no token begins
abbrev pub CutsFrom : List ℕ → ℕ → Result (Option Token) LexFault → Type 0
CutsFrom bytes from (Ok (Some t)) =
    StopsAt bytes from t.start × (t.start < t.end) × IsFirst (drop t.start bytes) t.kind (t.end - t.start)
CutsFrom bytes from (Ok None) = StopsAt bytes from (length bytes)
CutsFrom bytes from (Err (BadToken at)) =
    StopsAt bytes from at × (at < length bytes) × HasNone (drop at bytes)

-- these tokens are cut one after another, from this place on up to that one
abbrev pub Tokens : List ℕ → ℕ → List Token → ℕ → Type 0
Tokens bytes from [] to = from ≡ to
Tokens bytes from (t ∷ ts) to = CutsFrom bytes from (Ok (Some t)) × Tokens bytes t.end ts to

-- where the next call begins
abbrev pub after : Place → Result (Option Token) LexFault → ℕ
after old (Ok (Some t)) = t.end
after old (Ok None) = length old.bytes
after old (Err fault) = old.at

-- EF BB BF, the byte order mark of UTF-8
abbrev pub has_mark : List ℕ → Bool
has_mark [] = false
has_mark (a ∷ []) = false
has_mark (a ∷ b ∷ []) = false
has_mark (a ∷ b ∷ c ∷ bs) = (a == 239) && (b == 187) && (c == 191)

-- the first place: a byte order mark is passed over
abbrev pub start_of : List ℕ → ℕ
start_of bs = if has_mark bs then 3 else 0
