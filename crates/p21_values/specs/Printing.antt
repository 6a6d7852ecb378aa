use Rattle.std.specs.Prelude.{List, [], ◌∷◌, ◌++◌, map}
use Rattle.p21_values.specs.Lexemes.{Lexeme, Absence, Derivation, Opening, Closing, Separator, NumberOf, WordsOf, EnumerationOf, BitsOf, KeywordOf, ReferenceTo}
use Rattle.p21_values.specs.declared.value.Value21.{Value21}
use Rattle.p21_values.specs.declared.value.Value21.TheOpen.{Value21-F}
use Rattle.p21_values.specs.declared.value.Value21.TheOpen as layer
use Rattle.p21_values.specs.declared.value.Value21.TheFolds.{fold-Value21}

-- values behind the first one, each after a separator
abbrev pub behind : List (List Lexeme) → List Lexeme
behind [] = []
behind (v ∷ vs) = Separator ∷ (v ++ behind vs)

-- one after another, with commas between them
abbrev pub joined : List (List Lexeme) → List Lexeme
joined [] = []
joined (v ∷ vs) = v ++ behind vs

-- What a value is spelled by, where its parts are spelled so.
abbrev pub print_step : Value21-F (List Lexeme) → List Lexeme
print_step layer.Absent = Absence ∷ []
print_step layer.Derived = Derivation ∷ []
print_step (layer.Number bs) = NumberOf bs ∷ []
print_step (layer.Words bs) = WordsOf bs ∷ []
print_step (layer.Enumeration bs) = EnumerationOf bs ∷ []
print_step (layer.Bits bs) = BitsOf bs ∷ []
print_step (layer.Reference n) = ReferenceTo n ∷ []
print_step (layer.List vs) = Opening ∷ (joined vs ++ Closing ∷ [])
print_step (layer.Typed word v) = KeywordOf word ∷ Opening ∷ (v ++ Closing ∷ [])

-- the tokens that spell a value
abbrev pub print : Value21 → List Lexeme
print = fold-Value21 (List Lexeme) print_step

-- values between commas
abbrev pub print_all : List Value21 → List Lexeme
print_all vs = joined (map print vs)
