-- Tokens within the bytes: what their spelling tells.
use Rattle.std.proofs.Common.{◌≡◌, ℕ, ◌≤◌, List, [], ◌∷◌, length, map, ap, subst, arith}
use Rattle.std.specs.Str.{IsAscii}
use Rattle.std.specs.Char.{to_ascii_uppercase}
use Rattle.std.specs.Coded.{le_prop}
use Rattle.std.proofs.Math.Logic.{∥∥₁_elim}
use Rattle.std.proofs.lemmas.List.{length-append}
use Rattle.p21_lexer.specs.declared.token.TokenKind.{TokenKind}
use Rattle.p21_lexer.specs.declared.token.TokenKind.TheVariants as tokens
use Rattle.p21_lexer.specs.Spelling.{Spells}
use Rattle.p21_values.proofs.Contents.{keyword_ascii}

-- a keyword's bytes in upper case
pub ascii_said : (k : TokenKind) (bs : List ℕ) → ∥ Spells k bs ∥₁ → k ≡ tokens.Word → IsAscii (map to_ascii_uppercase bs)
ascii_said k bs s is = λ i. ∥∥₁_elim s le_prop (λ w. keyword_ascii k bs w is i)

-- what has marks is two bytes long

text_long : (bs : List ℕ) → Spells tokens.Words bs → 2 ≤ length bs
text_long bs w = let e = ap length w.whole in let l = length-append w.inner (39 ∷ []) in omega (arith, e, l)

letters_long : (bs : List ℕ) → Spells tokens.Enumeration bs → 2 ≤ length bs
letters_long bs w = let e = ap length w.whole in omega (arith, e)

pub words_two : (k : TokenKind) (bs : List ℕ) → ∥ Spells k bs ∥₁ → k ≡ tokens.Words → 2 ≤ length bs
words_two k bs s is = ∥∥₁_elim s le_prop (λ w. text_long bs (subst (λ (q : TokenKind). Spells q bs) is w))

pub letters_two : (k : TokenKind) (bs : List ℕ) → ∥ Spells k bs ∥₁ → k ≡ tokens.Enumeration → 2 ≤ length bs
letters_two k bs s is = ∥∥₁_elim s le_prop (λ w. letters_long bs (subst (λ (q : TokenKind). Spells q bs) is w))
