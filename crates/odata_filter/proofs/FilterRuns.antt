-- Readings of several tokens of a filter.
use Rattle.std.proofs.Common.{◌≡◌, List, ◌∷◌, ◌++◌, Option, Some}
use Rattle.odata_filter.specs.declared.filter_state.Reading.{Reading}
use Rattle.odata_filter.specs.FilterLexemes.{Lexeme}
use Rattle.odata_filter.specs.inner.FilterSteps.{step}
use Rattle.odata_filter.proofs.Runs as runs

-- what has been read with more tokens; none where one of them can't come
abbrev pub run : Reading → List Lexeme → Option Reading
run = runs.run step

-- one token, and then others
pub run_cons : (read next : Reading) (l : Lexeme) (ls : List Lexeme) (o : Option Reading)
    → step read l ≡ Some next → run next ls ≡ o → run read (l ∷ ls) ≡ o
run_cons = runs.run_cons step

-- some tokens, and then others
pub run_then : (read next : Reading) (ls ms : List Lexeme) (o : Option Reading)
    → run read ls ≡ Some next → run next ms ≡ o → run read (ls ++ ms) ≡ o
run_then = runs.run_then step
