-- A token that is cut from a place is one.
use Rattle.std.proofs.Common.{◌≡◌, ℕ, List, Option, Some, None, Result, Ok, Err, ap}
use Rattle.p21_lexer.specs.declared.token.Token.{Token}
use Rattle.p21_lexer.specs.declared.token.LexFault.{LexFault}
use Rattle.p21_lexer.specs.declared.token.LexFault.TheVariants as lex
use Rattle.p21_lexer.proofs.OneCut.{one_answer}
use Rattle.p21_lexer.specs.Cutting.{CutsFrom}
use Rattle.p21_values.specs.declared.fault.ReadFault.{ReadFault}
use Rattle.p21_values.specs.declared.fault.ReadFault.TheVariants as faults
use Rattle.p21_values.specs.TokenPieces.{NoToken}

token_or : Token → Result (Option Token) LexFault → Token
token_or d (Ok (Some t)) = t
token_or d r = d

pub one_token : (bytes : List ℕ) (at : ℕ) (t u : Token) → CutsFrom bytes at (Ok (Some t)) → CutsFrom bytes at (Ok (Some u)) → t ≡ u
unfolding token_or
one_token bytes at t u h k = (let e = one_answer bytes at (Ok (Some t)) (Ok (Some u)) h k in ap (λ (r : Result (Option Token) LexFault). token_or t r) e)

pub no_token : (bytes : List ℕ) (at : ℕ) (f : ReadFault) → NoToken bytes at f → (t : Token) → CutsFrom bytes at (Ok (Some t)) → ⊥
no_token bytes at (faults.BadToken p) h t k = let e = one_answer bytes at (Err (lex.BadToken p)) (Ok (Some t)) h k in cc
no_token bytes at (faults.BadStatement p) h t k = let e = one_answer bytes at (Ok None) (Ok (Some t)) h.0 k in cc
no_token bytes at faults.Memory h t k = absurd h
