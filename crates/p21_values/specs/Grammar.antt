use Rattle.std.specs.Prelude.{◌≡◌, ℕ, List, [], ◌∷◌, ◌++◌, Option, Some, None, zero, suc, ◌-◌}
use Rattle.p21_values.specs.declared.limits.TheConstants.{MOST_DEPTH}

-- The grammar of a file (ISO 10303-21, sections 5 and 7 to 11), as rules on what it sees of the tokens. Parentheses of an instance nest
-- up to a depth, those of the header without limit. A file may have one DATA section.

-- The words that the grammar names; each other word is Other.
pub data Mark : Type 0 where
  Iso Header Data EndSec EndIso Other : Mark

-- What the grammar sees of a token.
pub data Class : Type 0 where
  Simple Name Open Close Comma Semi Equals : Class
  Word : Mark → Class

-- Signs of the grammar. A depth is how many more parentheses may nest, none where there is no limit.
pub data Sign : Type 0 where
  T : Class → Sign
  AnyWord Statements AfterEnd Instances Body Ones : Sign
  Value Inside After : Option ℕ → Sign

-- one parenthesis deeper
abbrev pub down : Option ℕ → Option (Option ℕ)
down None = Some None
down (Some zero) = None
down (Some (suc n)) = Some (Some n)

-- a word that isn't ENDSEC
abbrev pub IsPlainMark : Mark → Type 0
IsPlainMark EndSec = ⊥
IsPlainMark _ = Unit {0}

-- The rules: a sign, and what may stand for it.
pub data Rule : Sign → List Sign → Type 0 where
  -- value: a simple one, a name, ( values ), or word ( value )
  simple : (d : Option ℕ) → Rule (Value d) (T Simple ∷ [])
  name : (d : Option ℕ) → Rule (Value d) (T Name ∷ [])
  list : (d e : Option ℕ) → down d ≡ Some e → Rule (Value d) (T Open ∷ Inside e ∷ [])
  typed : (d e : Option ℕ) → down d ≡ Some e → Rule (Value d) (AnyWord ∷ T Open ∷ Value e ∷ T Close ∷ [])
  -- after an opening parenthesis, up to and with the closing one: nothing, or values between commas
  empty : (d : Option ℕ) → Rule (Inside d) (T Close ∷ [])
  first : (d : Option ℕ) → Rule (Inside d) (Value d ∷ After d ∷ [])
  last : (d : Option ℕ) → Rule (After d) (T Close ∷ [])
  more : (d : Option ℕ) → Rule (After d) (T Comma ∷ Value d ∷ After d ∷ [])
  -- header statements, up to and with ENDSEC ; DATA ; where a word ENDSEC may also begin a statement
  statement : (m : Mark) → IsPlainMark m
      → Rule Statements (T (Word m) ∷ T Open ∷ Inside None ∷ T Semi ∷ Statements ∷ [])
  ending : Rule Statements (T (Word EndSec) ∷ AfterEnd ∷ [])
  again : Rule AfterEnd (T Open ∷ Inside None ∷ T Semi ∷ Statements ∷ [])
  content : Rule AfterEnd (T Semi ∷ T (Word Data) ∷ T Semi ∷ [])
  -- instances, and the end of the file
  instance : Rule Instances (T Name ∷ T Equals ∷ Body ∷ T Semi ∷ Instances ∷ [])
  finish : Rule Instances (T (Word EndSec) ∷ T Semi ∷ T (Word EndIso) ∷ T Semi ∷ [])
  -- word ( values ), or several of these in parentheses
  plain : Rule Body (AnyWord ∷ T Open ∷ Inside (Some (MOST_DEPTH - 1)) ∷ [])
  complex : Rule Body (T Open ∷ AnyWord ∷ T Open ∷ Inside (Some (MOST_DEPTH - 2)) ∷ Ones ∷ [])
  closed : Rule Ones (T Close ∷ [])
  one : Rule Ones (AnyWord ∷ T Open ∷ Inside (Some (MOST_DEPTH - 2)) ∷ Ones ∷ [])

-- The tokens that signs stand for, by the rules.
pub data Derives : List Sign → List Class → Type 0 where
  done : Derives [] []
  token : {α : List Sign} {ts : List Class} (c : Class) → Derives α ts → Derives (T c ∷ α) (c ∷ ts)
  word : {α : List Sign} {ts : List Class} (m : Mark) → Derives α ts → Derives (AnyWord ∷ α) (Word m ∷ ts)
  rule : {α : List Sign} {ts : List Class} (s : Sign) (r : List Sign) → Rule s r → Derives (r ++ α) ts
      → Derives (s ∷ α) ts

-- the header, up to and with the semicolon after DATA, and then the instances, up to and with the last semicolon
abbrev pub file : List Sign
file = T (Word Iso) ∷ T Semi ∷ T (Word Header) ∷ T Semi ∷ Statements ∷ Instances ∷ []

-- the classes are those of a file
abbrev pub IsFile : List Class → Type 0
IsFile ts = Derives file ts

-- some tokens complete these to a file
abbrev pub IsViable : List Class → Type 0
IsViable ts = (more : List Class) × IsFile (ts ++ more)
