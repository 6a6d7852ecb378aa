-- How many values stand in bytes: no more than the bytes.
use Rattle.std.proofs.Common.{ℕ, ◌-◌, ◌<◌, ◌≤◌, List, [], ◌∷◌, ◌++◌, length, map, drop, Ok, Some, ap, arith}
use Rattle.std.specs.Coded.{le_prop}
use Rattle.std.proofs.lemmas.List.{length-append, length-drop}
use mathlib.Core.Logic.{∥∥₁_elim}
use Rattle.p21_lexer.specs.declared.token.Token.{Token}
use Rattle.p21_lexer.specs.TokenSeparators.{Passes}
use Rattle.p21_lexer.specs.Cutting.{CutsFrom}
use Rattle.p21_values.specs.declared.value.Value21.{Value21}
use Rattle.p21_values.specs.Lexemes.{Lexeme, Closing, Cuts}
use Rattle.p21_values.specs.Printing.{print, print_all, behind}
use Rattle.p21_values.specs.Standing.{StandInside}
use Rattle.p21_table.proofs.FirstTokens.{shaped}

-- what is passed leaves no more than there was
passed_shorter : (pieces : List (List ℕ)) (bs rest : List ℕ) → Passes pieces bs rest → length rest ≤ length bs
passed_shorter [] bs rest h = let e = ap length h in omega (arith, e)
passed_shorter (p ∷ pieces) bs rest h =
    let e = ap length h.2 in
    let l = length-append p h.0 in
    let less = passed_shorter pieces h.0 rest h.3 in
    omega (arith, e, l, less)

-- a token takes a byte at least
token_fits : (bytes : List ℕ) (at : ℕ) (t : Token) → at ≤ length bytes → CutsFrom bytes at (Ok (Some t)) → (at < t.end) × (t.end ≤ length bytes)
token_fits bytes at t le h =
    let shorter = passed_shorter h.0.1.pieces (drop at bytes) (drop t.start bytes) h.0.1.passed in
    let a = length-drop at bytes in
    let b = length-drop t.start bytes in
    let stop = h.0.0 in
    let some = h.1 in
    let whole = h.2.within in (omega (arith, shorter, a, b, stop, some, le), omega (arith, whole, b, stop, some))

cuts_fit : (bytes : List ℕ) (at end : ℕ) (ls : List Lexeme) → at ≤ length bytes → Cuts bytes at ls end → length ls ≤ length bytes - at
cuts_fit bytes at end [] le h = omega arith
cuts_fit bytes at end (l ∷ ls) le h =
    let fits = token_fits bytes at h.0 le h.1 in
    let on = fits.0 in
    let within = fits.1 in
    let rest = cuts_fit bytes h.0.end end ls within h.3 in
    omega (arith, on, within, rest)

-- each value is spelled by a token at least

behind_long : (vs : List Value21) → length vs ≤ length (behind (map print vs))
behind_long [] = omega arith
behind_long (v ∷ vs) =
    let l = length-append (print v) (behind (map print vs)) in
    let rest = behind_long vs in
    omega (arith, l, rest)

all_long : (vs : List Value21) → length vs ≤ length (print_all vs)
all_long [] = omega arith
all_long (v ∷ vs) =
    let l = length-append (print v) (behind (map print vs)) in
    let some = ap length (shaped v) in
    let rest = behind_long vs in
    omega (arith, l, some, rest)

pub values_fit : (bytes : List ℕ) (at : ℕ) (says : (vs : List Value21) × ∥ StandInside bytes at vs ∥₁) → at ≤ length bytes → length says.0 ≤ length bytes
values_fit bytes at says le =
    ∥∥₁_elim says.1 le_prop
    (λ h.
    let fit = cuts_fit bytes at h.0 (print_all says.0 ++ Closing ∷ []) le h.1 in
    let l = length-append (print_all says.0) (Closing ∷ []) in
    let long = all_long says.0 in
    omega (arith, fit, l, long))
