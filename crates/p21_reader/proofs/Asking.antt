-- What stands next: a sign, a word or a text, or something in its place.
use Rattle.std.proofs.Common.{◌≡◌, ℕ, inl, inr, Bool, true, false, ◌==◌, List, [], ◌∷◌, map, codes, slice_range, Option, Some, None, Result, Ok, Err, refl, sym, ap, subst, ◌∙◌}
use Rattle.std.specs.Prelude.{IsTrue, ◌↔◌, IfNone, IfSome, IfOk}
use Rattle.std.specs.Str.{bytes_eq}
use Rattle.std.specs.Char.{to_ascii_uppercase}
use Rattle.std.proofs.lemmas.Bool.{cases_Bool}
use Rattle.p21_lexer.specs.declared.token.Token.{Token}
use Rattle.p21_lexer.specs.declared.token.TokenKind.{TokenKind}
use Rattle.p21_lexer.specs.declared.token.TokenKind.TheVariants as tokens
use Rattle.p21_lexer.specs.Cutting.{CutsFrom, start_of}
use Rattle.p21_values.specs.declared.piece.Kind.{Kind}
use Rattle.p21_values.specs.declared.piece.Kind.TheVariants as kinds
use Rattle.p21_values.specs.declared.piece.Piece.{Piece}
use Rattle.p21_values.specs.Grammar.{Inside, T, Word, Iso, Semi}
use Rattle.p21_reader.specs.Machine.{run}
use Rattle.p21_values.specs.Lexemes.{Lexeme, Opening, Closing, Ending, WordsOf, KeywordOf, says, single_says, lexeme_of, class_of, classes, Cuts}
use Rattle.p21_reader.specs.inner.TokenReading.{Goes, sign_says}
use Rattle.p21_values.specs.TokenPieces.{IsPiece, IsSign, kind_of}
use Rattle.p21_reader.specs.Schema.{Statement, IsIfc4}
use Rattle.p21_reader.specs.inner.Heading.{OnlyText, OnlyIfc4}
use Rattle.p21_reader.specs.Uploads.{BeginsPart21, BeginsAt}
use Rattle.p21_reader.proofs.Steps.{cuts_append}
use Rattle.p21_values.proofs.Tokens.{one_token}
use Rattle.p21_reader.proofs.OneReading.{one_list}
use Rattle.p21_reader.proofs.Statements.{is_schema}
use Rattle.p21_values.proofs.Contents.{keyword_says, word_kind}

-- What stands next.

sign_kind : (w : Kind) → IsSign w → kind_of (class_of (sign_says w)) ≡ w
sign_kind kinds.Simple h = absurd h
sign_kind kinds.Name h = absurd h
sign_kind kinds.Word h = absurd h
sign_kind w h = refl

pub not_sign : (w : Kind) (bytes : List ℕ) (at : ℕ) (p : Piece) → IsSign w → CutsFrom bytes at (Ok (Some p.token)) → IsPiece bytes p → (p.kind ≡ w → ⊥) → (t : Token) → CutsFrom bytes at (Ok (Some t)) → lexeme_of bytes t ≡ sign_says w → ⊥
not_sign w bytes at p s h i n t k l =
    let e : p.token ≡ t = one_token bytes at p.token t h k in
    n (i.seen ∙ ap (λ (u : Token). kind_of (class_of (lexeme_of bytes u))) e ∙ ap (λ x. kind_of (class_of x)) l ∙ sign_kind w s)

pub not_word : (bytes : List ℕ) (at : ℕ) (p t : Token) → CutsFrom bytes at (Ok (Some p)) → CutsFrom bytes at (Ok (Some t)) → class_of (lexeme_of bytes t) ≡ class_of (lexeme_of bytes p)
not_word bytes at p t h k = let e : t ≡ p = one_token bytes at t p k h in ap (λ (u : Token). class_of (lexeme_of bytes u)) e

abbrev is_text : Lexeme → Bool
is_text (WordsOf bs) = true
is_text _ = false

single_text : (b : ℕ) → is_text (single_says b) ≡ false
single_text b = elim (cases_Bool (b == 40)) [
  | inl k ↦ rw k refl
  | inr k ↦
      elim (cases_Bool (b == 41)) [
        | inl l ↦ rw (k, l) refl
        | inr l ↦
            elim (cases_Bool (b == 44)) [
              | inl m ↦ rw (k, l, m) refl
              | inr m ↦
                  elim (cases_Bool (b == 59)) [
                    | inl n ↦ rw (k, l, m, n) refl
                    | inr n ↦
                        elim (cases_Bool (b == 61)) [
                          | inl o ↦ rw (k, l, m, n, o) refl
                          | inr o ↦ elim (cases_Bool (b == 42)) [ inl p ↦ rw (k, l, m, n, o, p) refl | inr p ↦ rw (k, l, m, n, o, p) refl ]
                        ]
                  ]
            ]
      ]
]

text_kind : (k : TokenKind) (bs : List ℕ) → is_text (says k bs) ≡ true → k ≡ tokens.Words
text_kind tokens.Words bs h = refl
text_kind tokens.Single [] h = cc
text_kind tokens.Single (b ∷ bs) h = absurd (let e : true ≡ false = sym h ∙ single_text b in cc)
text_kind k bs h = cc

pub not_text : (bytes : List ℕ) (at : ℕ) (p : Token) → CutsFrom bytes at (Ok (Some p)) → (p.kind ≡ tokens.Words → ⊥) → (t : Token) (spelled : List ℕ) → CutsFrom bytes at (Ok (Some t)) → lexeme_of bytes t ≡ WordsOf spelled → ⊥
not_text bytes at p h n t spelled k l =
    let e : p ≡ t = one_token bytes at p t h k in
    n (ap (λ (u : Token). u.kind) e ∙ text_kind t.kind (slice_range bytes t.start t.end) (ap is_text l))

pub text_says : (bytes : List ℕ) (t : Token) → t.kind ≡ tokens.Words → lexeme_of bytes t ≡ says tokens.Words (slice_range bytes t.start t.end)
text_says bytes t e = ap (λ k. says k (slice_range bytes t.start t.end)) e

-- A text alone in a list.

past_one : (bytes : List ℕ) (at p end : ℕ) (l m : Lexeme) (ls : List Lexeme) → Cuts bytes at (l ∷ []) p → Cuts bytes at (m ∷ ls) end → Cuts bytes p ls end
past_one bytes at p end l m ls h k =
    let e : k.0 ≡ h.0 = one_token bytes at k.0 h.0 k.1 h.1 in
    let P : ℕ → Type 0 = λ n. Cuts bytes n ls end in
    subst P (ap (λ (t : Token). t.end) e ∙ h.3) k.3

pub if_none : {A : Type 0} (o : Option A) (P : Type 0) → P → IfNone o P
if_none None P p = p
if_none (Some a) P p = tt

pub text_missing : (bytes : List ℕ) (at opened : ℕ) → Cuts bytes at (Opening ∷ []) opened → ((t : Token) (spelled : List ℕ) → CutsFrom bytes opened (Ok (Some t)) → lexeme_of bytes t ≡ WordsOf spelled → ⊥) → (spelled : List ℕ) → OnlyText bytes at spelled → ⊥
text_missing bytes at opened h n spelled o =
    let r = past_one bytes at opened o.0 Opening Opening (WordsOf spelled ∷ Closing ∷ Closing ∷ []) h o.1 in
    n r.0 spelled r.1 r.2

token_cuts : (bytes : List ℕ) (at : ℕ) (t : Token) → CutsFrom bytes at (Ok (Some t)) → Cuts bytes at (lexeme_of bytes t ∷ []) t.end
token_cuts bytes at t h = (t, h, refl, refl)

closes : (bytes : List ℕ) (at opened : ℕ) (t : Token) (spelled : List ℕ) (o : OnlyText bytes at spelled) → Cuts bytes at (Opening ∷ []) opened → CutsFrom bytes opened (Ok (Some t)) → Cuts bytes t.end (Closing ∷ Closing ∷ []) o.0
closes bytes at opened t spelled o h k =
    past_one bytes opened t.end o.0 (lexeme_of bytes t) (WordsOf spelled) (Closing ∷ Closing ∷ []) (token_cuts bytes opened t k) (past_one bytes at opened o.0 Opening Opening (WordsOf spelled ∷ Closing ∷ Closing ∷ []) h o.1)

pub first_missing : (bytes : List ℕ) (at opened : ℕ) (t : Token) → Cuts bytes at (Opening ∷ []) opened → CutsFrom bytes opened (Ok (Some t)) → ((u : Token) → CutsFrom bytes t.end (Ok (Some u)) → lexeme_of bytes u ≡ Closing → ⊥)
    → (spelled : List ℕ) → OnlyText bytes at spelled → ⊥
first_missing bytes at opened t h k n spelled o = let r = closes bytes at opened t spelled o h k in n r.0 r.1 r.2

pub second_missing : (bytes : List ℕ) (at opened close : ℕ) (t : Token) → Cuts bytes at (Opening ∷ []) opened → CutsFrom bytes opened (Ok (Some t)) → Cuts bytes t.end (Closing ∷ []) close
    → ((u : Token) → CutsFrom bytes close (Ok (Some u)) → lexeme_of bytes u ≡ Closing → ⊥) → (spelled : List ℕ) → OnlyText bytes at spelled → ⊥
second_missing bytes at opened close t h k c n spelled o =
    let r = past_one bytes t.end close o.0 Closing Closing (Closing ∷ []) c (closes bytes at opened t spelled o h k) in
    n r.0 r.1 r.2

pub text_found : (bytes : List ℕ) (at opened close end : ℕ) (t : Token) (spelled : List ℕ) → Cuts bytes at (Opening ∷ []) opened → CutsFrom bytes opened (Ok (Some t)) → lexeme_of bytes t ≡ WordsOf spelled → Cuts bytes t.end (Closing ∷ []) close
    → Cuts bytes close (Closing ∷ []) end → OnlyText bytes at spelled
text_found bytes at opened close end t spelled h k l c d =
    (end, cuts_append bytes at opened end (Opening ∷ []) (WordsOf spelled ∷ Closing ∷ Closing ∷ []) h (t, k, l, cuts_append bytes t.end close end (Closing ∷ []) (Closing ∷ []) c d))

only_same : (bytes : List ℕ) (at : ℕ) (a b : List ℕ) → OnlyText bytes at a → OnlyText bytes at b → a ≡ b
only_same bytes at a b h k =
    let e = one_list (Inside None ∷ []) bytes at h.0 k.0 (Opening ∷ WordsOf a ∷ Closing ∷ Closing ∷ []) (Opening ∷ WordsOf b ∷ Closing ∷ Closing ∷ []) h.1 k.1 refl refl in
    cc

pub only_ifc4 : (bytes : List ℕ) (at : ℕ) (spelled : List ℕ) (b : Bool) → OnlyText bytes at spelled → (IsTrue b ↔ IsIfc4 spelled) → (IsTrue b ↔ OnlyIfc4 bytes at)
only_ifc4 bytes at spelled b o h = ((λ t. (spelled, o, h.0 t)), (λ i. h.1 (subst IsIfc4 (only_same bytes at i.0 spelled i.1 o) i.2)))

-- The keyword of a statement.

pub schema_word : (bytes : List ℕ) (p : Piece) (s : Statement) (b : Bool) → IsPiece bytes p → p.kind ≡ kinds.Word → lexeme_of bytes p.token ≡ KeywordOf s.keyword
    → b ≡ bytes_eq (map to_ascii_uppercase (slice_range bytes p.token.start p.token.end)) (codes "FILE_SCHEMA") → is_schema s ≡ b
schema_word bytes p s b i k l e =
    let w = word_kind p.token.kind (slice_range bytes p.token.start p.token.end) (sym i.seen ∙ k) in
    let f : KeywordOf (map to_ascii_uppercase (slice_range bytes p.token.start p.token.end)) ≡ KeywordOf s.keyword = keyword_says p.token.kind (slice_range bytes p.token.start p.token.end) w ∙ l in
    let g : map to_ascii_uppercase (slice_range bytes p.token.start p.token.end) ≡ s.keyword = cc in
    ap (λ x. bytes_eq x (codes "FILE_SCHEMA")) (sym g) ∙ sym e

pub only_ifc4_ok : {E : Type 0} (bytes : List ℕ) (at : ℕ) (spelled : List ℕ) (r : Result Bool E) → OnlyText bytes at spelled → IfOk r (λ b. IsTrue b ↔ IsIfc4 spelled) → IfOk r (λ b. IsTrue b ↔ OnlyIfc4 bytes at)
only_ifc4_ok bytes at spelled (Ok b) o h = only_ifc4 bytes at spelled b o h
only_ifc4_ok bytes at spelled (Err e) o h = tt

-- The first two tokens of a file.

pub word_semi : (bytes : List ℕ) (at word end : ℕ) → (t : Token) → CutsFrom bytes at (Ok (Some t)) → class_of (lexeme_of bytes t) ≡ Word Iso → t.end ≡ word → Cuts bytes word (Ending ∷ []) end
    → (ls : List Lexeme) × (classes ls ≡ Word Iso ∷ Semi ∷ []) × Goes (T (Word Iso) ∷ T Semi ∷ []) [] bytes at end ls
word_semi bytes at word end t h e f k =
    let rest : Cuts bytes t.end (Ending ∷ []) end = (let P : ℕ → Type 0 = λ n. Cuts bytes n (Ending ∷ []) end in subst P (sym f) k) in (
      lexeme_of bytes t ∷ Ending ∷ [],
      ap (λ x. x ∷ Semi ∷ []) e,
      record { cuts = (t, h, refl, rest); leads = λ α. ap (λ x. run (T (Word Iso) ∷ T Semi ∷ α) (x ∷ Semi ∷ [])) e },
    )

-- two tokens of these classes
two_tokens : (bytes : List ℕ) (at end : ℕ) (ls : List Lexeme) → Cuts bytes at ls end → classes ls ≡ Word Iso ∷ Semi ∷ []
    → (t u : Token) × CutsFrom bytes at (Ok (Some t)) × (class_of (lexeme_of bytes t) ≡ Word Iso) × CutsFrom bytes t.end (Ok (Some u)) × (class_of (lexeme_of bytes u) ≡ Semi)
two_tokens bytes at end [] h e = cc
two_tokens bytes at end (l ∷ []) h e = absurd (let f : [] ≡ Semi ∷ [] = cc in cc)
two_tokens bytes at end (l ∷ m ∷ ls) h e =
    let a : class_of l ≡ Word Iso = cc in
    let b : class_of m ∷ classes ls ≡ Semi ∷ [] = cc in
    let c : class_of m ≡ Semi = cc in
    (h.0, h.3.0, h.1, ap class_of h.2 ∙ a, h.3.1, ap class_of h.3.2 ∙ c)

semi_says : (l : Lexeme) → class_of l ≡ Semi → l ≡ Ending
semi_says Ending h = refl
semi_says l h = cc

pub not_begun_word : (bytes : List ℕ) (at : ℕ) → at ≡ start_of bytes → ((t : Token) → CutsFrom bytes at (Ok (Some t)) → class_of (lexeme_of bytes t) ≡ Word Iso → ⊥) → BeginsPart21 bytes → ⊥
not_begun_word bytes at e n b =
    let two = two_tokens bytes (start_of bytes) b.1 b.0 b.2 b.3 in
    n two.0 (let P : ℕ → Type 0 = λ a. CutsFrom bytes a (Ok (Some two.0)) in subst P (sym e) two.2) two.3

pub not_begun_semi : (bytes : List ℕ) (at word : ℕ) → at ≡ start_of bytes → (t : Token) → CutsFrom bytes at (Ok (Some t)) → t.end ≡ word → ((u : Token) → CutsFrom bytes word (Ok (Some u)) → lexeme_of bytes u ≡ Ending → ⊥) → BeginsPart21 bytes → ⊥
not_begun_semi bytes at word e t h f n b =
    let two = two_tokens bytes (start_of bytes) b.1 b.0 b.2 b.3 in
    let same : two.0 ≡ t = one_token bytes at two.0 t (let P : ℕ → Type 0 = λ a. CutsFrom bytes a (Ok (Some two.0)) in subst P (sym e) two.2) h in
    let place : two.0.end ≡ word = ap (λ (x : Token). x.end) same ∙ f in
    n two.1 (let P : ℕ → Type 0 = λ a. CutsFrom bytes a (Ok (Some two.1)) in subst P place two.4) (semi_says (lexeme_of bytes two.1) two.5)

pub begun_some : (bytes : List ℕ) (at word : ℕ) (o : Option ℕ) → at ≡ start_of bytes → (t : Token) → CutsFrom bytes at (Ok (Some t)) → class_of (lexeme_of bytes t) ≡ Word Iso → t.end ≡ word → IfSome o (λ end. Cuts bytes word (Ending ∷ []) end) → IfSome o (λ end. BeginsAt bytes end)
begun_some bytes at word (Some end) e t h c f k =
    let w = word_semi bytes at word end t h c f k in
    (w.0, w.1, (let P : ℕ → Type 0 = λ a. Goes (T (Word Iso) ∷ T Semi ∷ []) [] bytes a end w.0 in subst P e w.2))
begun_some bytes at word None e t h c f k = tt

pub begun_none : (bytes : List ℕ) (at word : ℕ) (o : Option ℕ) → at ≡ start_of bytes → (t : Token) → CutsFrom bytes at (Ok (Some t)) → t.end ≡ word → IfNone o ((u : Token) → CutsFrom bytes word (Ok (Some u)) → lexeme_of bytes u ≡ Ending → ⊥)
    → IfNone o (BeginsPart21 bytes → ⊥)
begun_none bytes at word (Some end) e t h f k = tt
begun_none bytes at word None e t h f k = not_begun_semi bytes at word e t h f k
