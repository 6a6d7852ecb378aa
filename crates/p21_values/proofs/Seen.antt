-- What is seen of tokens that stand alone.
use Rattle.std.proofs.Common.{◌≡◌, ℕ, ◌-◌, ◌<◌, ◌≤◌, List, ◌∷◌, length, get_or, take, drop, suc, arith, refl, ap, drop-cons, slice_range}
use Rattle.p21_lexer.specs.declared.token.TokenKind.{TokenKind}
use Rattle.p21_lexer.specs.declared.token.TokenKind.TheVariants as tokens
use Rattle.p21_values.specs.declared.piece.Kind.TheVariants as kinds
use Rattle.p21_values.specs.Lexemes.{alone, says, class_of, single_says}
use Rattle.p21_values.specs.TokenPieces.{kind_of}

pub head_of : (bs : List ℕ) (a b d : ℕ) → a < b → b ≤ length bs → slice_range bs a b ≡ get_or bs a d ∷ take (b - suc a) (drop (suc a) bs)
head_of bs a b d h k =
    let e : b - a ≡ suc (b - suc a) = omega arith in
    rw (e, drop-cons bs a d (omega arith)) refl

pub alone_says : (bs : List ℕ) (a b d : ℕ) → a < b → b ≤ length bs → alone (slice_range bs a b) ≡ single_says (get_or bs a d)
alone_says bs a b d h k = ap alone (head_of bs a b d h k)

pub simple_seen : (k : TokenKind) (bs : List ℕ) → (k ≡ tokens.Word → ⊥) → (k ≡ tokens.Name → ⊥) → (k ≡ tokens.Single → ⊥) → kinds.Simple ≡ kind_of (class_of (says k bs))
simple_seen tokens.Word bs a b c = absurd (a refl)
simple_seen tokens.Name bs a b c = absurd (b refl)
simple_seen tokens.Single bs a b c = absurd (c refl)
simple_seen k bs a b c = refl
