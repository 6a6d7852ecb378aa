-- A value of one token that stands right there, the first of a list or after a comma.
use Rattle.std.proofs.Common.{◌≡◌, ℕ, suc, ◌+◌, ◌<◌, ◌≤◌, inl, inr, ◌⊎◌, List, [], ◌∷◌, ◌++◌, length, Ok, arith, refl, sym, ap, subst, ◌∙◌}
use Rattle.std.specs.Prelude.{slice_index, slice_range}
use Rattle.p21_lexer.specs.declared.token.Token.{Token}
use Rattle.p21_lexer.specs.declared.token.TokenKind.{TokenKind}
use Rattle.p21_lexer.specs.declared.token.TokenKind.TheVariants as tokens
use Rattle.p21_values.specs.declared.piece.Kind.{Kind}
use Rattle.p21_values.specs.declared.piece.Kind.TheVariants as kinds
use Rattle.p21_values.specs.Lexemes.{Lexeme, class_of, lexeme_of, says, single_says}
use Rattle.p21_values.specs.TokenPieces.{kind_of}
use Rattle.p21_values.proofs.Seen.{alone_says}
use Rattle.p21_reader.specs.declared.table.Table.{Table}
use Rattle.p21_reader.specs.inner.ValueNesting.{tells}
use Rattle.p21_reader.specs.inner.Tabling.{Counts, PassesValue, PutsFirst, PutsBehind, PutsMore}
use Rattle.p21_lexer.specs.inner.Kinds.{kind_of as kind_by, span}
use Rattle.p21_lexer.specs.There.{IsOneValue, IsValueThere}
use Rattle.p21_lexer.proofs.Stands.{stands}
use Rattle.p21_reader.proofs.Midway.{plain_value}
use Rattle.p21_reader.proofs.RowLemmas.{sign_token, sign_by, sign_said_by}

abbrev IsPlain : Kind → Type 0
IsPlain k = (k ≡ kinds.Simple) ⊎ (k ≡ kinds.Name)

single_is_plain : (b : ℕ) → (b ≡ 36) ⊎ (b ≡ 42) → kind_of (class_of (single_says b)) ≡ kinds.Simple
single_is_plain b (inl e) = rw e refl
single_is_plain b (inr e) = rw e refl

-- what the grammar sees of a token that is a value by itself
plain_kind : (kind : TokenKind) (bytes : List ℕ) (at end : ℕ) → at < end → end ≤ length bytes → IsOneValue kind (slice_index bytes at) → IsPlain (kind_of (class_of (says kind (slice_range bytes at end))))
plain_kind tokens.Word bytes at end lt le h = absurd h
plain_kind tokens.Name bytes at end lt le h = inr refl
plain_kind tokens.Number bytes at end lt le h = inl refl
plain_kind tokens.Words bytes at end lt le h = inl refl
plain_kind tokens.Enumeration bytes at end lt le h = inl refl
plain_kind tokens.Bits bytes at end lt le h = inl refl
plain_kind tokens.Single bytes at end lt le h =
    inl (ap (λ (l : Lexeme). kind_of (class_of l)) (alone_says bytes at end 0 lt le) ∙ single_is_plain (slice_index bytes at) h)

plain_tells : (k : Kind) → IsPlain k → tells k ≡ 1
plain_tells k (inl e) = ap tells e
plain_tells k (inr e) = ap tells e

-- it is put with its start
pub plain_start : (depth : ℕ) (bytes : List ℕ) (at end : ℕ) (old new : Table) → IsValueThere bytes at end
    → new.starts.items ≡ old.starts.items ++ at ∷ [] → Counts old.values new.values 1 → PutsFirst depth bytes at old new end
plain_start depth bytes at end old new h items c =
    let item : Token = record { kind = h.0; start = at; end = end } in
    let k : Kind = kind_of (class_of (lexeme_of bytes item)) in
    let cuts = h.2.0 in
    let plain = plain_kind h.0 bytes at end cuts.1 h.2.1 h.1 in
    let P : ℕ → Type 0 = λ n. Counts old.values new.values n in
    let v : PassesValue depth bytes item old.values new.values (Ok end) = plain_value depth bytes item old.values new.values k refl plain (subst P (sym (plain_tells k plain)) c) in
    (item, cuts, (v.0, v.1, items, v.2))

-- the same after a comma
pub plain_behind : (depth : ℕ) (bytes : List ℕ) (at end : ℕ) (old new : Table) → at < length bytes → slice_index bytes at ≡ 44 → IsValueThere bytes (at + 1) end
    → new.starts.items ≡ old.starts.items ++ (at + 1) ∷ [] → Counts old.values new.values 1 → PutsBehind depth bytes at old new end
plain_behind depth bytes at end old new lt e h items c =
    let p = plain_start depth bytes (at + 1) end old new h items c in
    (sign_token at, p.0, sign_by bytes at 44 tt lt e, sign_said_by bytes at 44 lt e, p.1, p.2)

-- Values that are `$`.

-- one of them is such a value
absent_there : (bytes : List ℕ) (at : ℕ) → at < length bytes → slice_index bytes at ≡ 36 → IsValueThere bytes at (at + 1)
unfolding span
absent_there bytes at lt e = (tokens.Single, inl e, stands bytes at (at + 1) tokens.Single lt (ap kind_by e) refl (omega (arith, lt)))

-- one more of them
pub absent_more : (depth : ℕ) (bytes : List ℕ) (from at : ℕ) (old now new : Table) → at + 1 < length bytes → slice_index bytes at ≡ 44 → slice_index bytes (at + 1) ≡ 36
    → new.starts.items ≡ now.starts.items ++ (at + 1) ∷ [] → Counts now.values new.values 1 → PutsMore depth bytes from old now at → PutsMore depth bytes from old new (at + 2)
absent_more depth bytes from at old now new lt comma mark items c h =
    let two : at + 1 + 1 ≡ at + 2 = omega arith in
    let P : ℕ → Type 0 = λ n. PutsBehind depth bytes at now new n in
    let behind = plain_behind depth bytes at (at + 1 + 1) now new (omega (arith, lt)) comma (absent_there bytes (at + 1) lt mark) items c in
    (suc h.0, (at, now, h.1, subst P two behind))
