-- The statements of a header, and what they say of the schema.
use Rattle.std.proofs.Common.{◌≡◌, ℕ, ◌<◌, ◌≤◌, arith, length, Bool, true, false, List, [], ◌∷◌, ◌++◌, map, filter, codes, Some, None, Result, Ok, Err, refl, sym, ap, subst, ◌∙◌, append_assoc}
use Rattle.std.specs.Prelude.{IsTrue, ◌↔◌}
use Rattle.std.specs.Str.{bytes_eq}
use Rattle.std.proofs.lemmas.List.{map-append}
use Rattle.std.proofs.lemmas.List.Elements.{filter-append}
use Rattle.p21_lexer.specs.declared.token.Token.{Token}
use Rattle.p21_lexer.specs.Cutting.{CutsFrom}
use Rattle.p21_values.specs.declared.fault.ReadFault.{ReadFault}
use Rattle.p21_values.specs.declared.piece.Kind.{Kind}
use Rattle.p21_values.specs.declared.piece.Kind.TheVariants as kinds
use Rattle.p21_reader.specs.declared.schema.Schema.{Schema}
use Rattle.p21_reader.specs.declared.schema.Schema.TheVariants as said
use Rattle.p21_values.specs.Grammar.{Class, Mark, Word, Iso, Header, Data, EndSec, EndIso, Other, Open, Semi, Sign, T, Statements, AfterEnd, Inside, Derives}
use Rattle.p21_reader.specs.Machine.{run, next}
use Rattle.p21_values.specs.Lexemes.{Lexeme, Opening, Closing, Ending, WordsOf, KeywordOf, lexeme_of, class_of, classes, Cuts}
use Rattle.p21_reader.specs.inner.TokenReading.{Goes, Fails, Expects}
use Rattle.p21_values.specs.TokenPieces.{NoToken, IsPiece, kind_of}
use Rattle.p21_reader.specs.Instances.{Passes}
use Rattle.p21_reader.specs.ExchangeFiles.{ReadsWord}
use Rattle.p21_reader.specs.Schema.{Statement, SpellsStatement, SpellsStatements, schemas, NamesIfc4}
use Rattle.p21_reader.specs.inner.Heading.{OnlyText, OnlyIfc4, IsStatementAt, SaysSchema, ReadsData, ReadsPart, ReadsStatements, ReadsHeader}
use Rattle.p21_values.specs.declared.fault.ReadFault.TheVariants as faults
use Rattle.p21_reader.specs.declared.header.Part.TheVariants as parts
use Rattle.p21_reader.specs.declared.header.Head.{Head}
use Rattle.p21_values.specs.declared.piece.Piece.{Piece}
use Rattle.p21_reader.proofs.Signs.{sign_said}
use Rattle.p21_reader.proofs.Viable.{complete, sound}
use Rattle.p21_reader.proofs.Steps.{goes_one, goes_trans, goes_under, fails_after, fails_under, fails_none, fails_refused, cuts_on}
use Rattle.p21_reader.proofs.OneReading.{one_list}

-- A word and a semicolon.

abbrev pub WordEnds : Mark → List ℕ → ℕ → Result ℕ ReadFault → Type 0
WordEnds m bytes at (Ok end) = (ls : List Lexeme) × (classes ls ≡ Word m ∷ Semi ∷ []) × Goes (T (Word m) ∷ T Semi ∷ []) [] bytes at end ls
WordEnds m bytes at (Err fault) = Fails (T (Word m) ∷ T Semi ∷ []) bytes at fault

pub word_semicolon : (m : Mark) (bytes : List ℕ) (at mid : ℕ) (r : Result ℕ ReadFault) → ReadsWord m bytes at (Ok mid) → Expects kinds.Semicolon bytes mid r → WordEnds m bytes at r
word_semicolon m bytes at mid (Ok end) w h = (
  w.0 ∷ Ending ∷ [],
  ap (λ x. x ∷ Semi ∷ []) w.1,
  goes_trans (T (Word m) ∷ T Semi ∷ []) (T Semi ∷ []) [] bytes at mid end (w.0 ∷ []) (Ending ∷ []) (goes_under (T (Word m) ∷ []) [] (T Semi ∷ []) bytes at mid (w.0 ∷ []) w.2) h,
)
word_semicolon m bytes at mid (Err f) w h =
    fails_after (T (Word m) ∷ T Semi ∷ []) (T Semi ∷ []) bytes at mid (w.0 ∷ []) f (goes_under (T (Word m) ∷ []) [] (T Semi ∷ []) bytes at mid (w.0 ∷ []) w.2) h

-- Statements one after another.

append_nil : {A : Type 0} (xs : List A) → xs ++ [] ≡ xs
append_nil [] = refl
append_nil (x ∷ xs) = ap (λ y. x ∷ y) (append_nil xs)

pub statements_more : (ss : List Statement) (s : Statement) (ls ms : List Lexeme) → SpellsStatements ss ls → SpellsStatement s ms → SpellsStatements (ss ++ s ∷ []) (ls ++ ms)
statements_more [] s ls ms h k = (ms, [], k, ap (λ x. x ++ ms) h ∙ sym (append_nil ms), refl)
statements_more (t ∷ ss) s ls ms h k = (h.0, h.1 ++ ms, h.2, ap (λ x. x ++ ms) h.3 ∙ append_assoc h.0 h.1 ms, statements_more ss s h.1 ms h.4 k)

-- What they say of the schema.

abbrev pub is_schema : Statement → Bool
is_schema s = bytes_eq s.keyword (codes "FILE_SCHEMA")

schemas_append : (a b : List Statement) → schemas (a ++ b) ≡ schemas a ++ schemas b
schemas_append a b = ap (λ z. map (λ (s : Statement). s.values) z) (filter-append is_schema a b) ∙ map-append (λ (s : Statement). s.values) (filter is_schema a) (filter is_schema b)

one_more : (a : List Statement) (s : Statement) (more : List Statement) → is_schema s ≡ true → schemas (a ++ s ∷ more) ≡ schemas a ++ s.values ∷ schemas more
one_more a s more e = schemas_append a (s ∷ more) ∙ ap (λ z. schemas a ++ z) (rw e refl)

none_more : (a : List Statement) (s : Statement) → is_schema s ≡ false → schemas (a ++ s ∷ []) ≡ schemas a
none_more a s e = schemas_append a (s ∷ []) ∙ ap (λ z. schemas a ++ z) (rw e refl) ∙ append_nil (schemas a)

later : (a : List Statement) (s : Statement) (more : List Statement) → (a ++ s ∷ []) ++ more ≡ a ++ s ∷ more
later a s more = append_assoc a (s ∷ []) more

pub says_other : (so_far : Schema) (a : List Statement) (s : Statement) → is_schema s ≡ false → SaysSchema so_far a → SaysSchema so_far (a ++ s ∷ [])
says_other said.Unnamed a s e h = none_more a s e ∙ h
says_other said.Ifc4 a s e h = (h.0, none_more a s e ∙ h.1, h.2)
says_other said.Wrong a s e h = λ more n. h (s ∷ more) (subst NamesIfc4 (later a s more) n)

-- two statements name a schema
two_named : (xs : List (List Lexeme)) (v w : List Lexeme) (ys : List (List Lexeme)) → (v ∷ []) ++ w ∷ ys ≡ xs → (u : List Lexeme) → xs ≡ u ∷ [] → ⊥
two_named xs v w ys e u f = let g : v ∷ w ∷ ys ≡ u ∷ [] = e ∙ f in let k : w ∷ ys ≡ [] = cc in cc

pub says_again : (so_far : Schema) (a : List Statement) (s : Statement) → is_schema s ≡ true → (so_far ≡ said.Unnamed → ⊥) → SaysSchema so_far a → SaysSchema said.Wrong (a ++ s ∷ [])
says_again said.Unnamed a s e n h = absurd (n refl)
says_again said.Ifc4 a s e n h = λ more k.
    two_named (schemas ((a ++ s ∷ []) ++ more)) (Opening ∷ WordsOf h.0 ∷ Closing ∷ Closing ∷ []) s.values (schemas more)
    (sym (ap schemas (later a s more) ∙ one_more a s more e ∙ ap (λ z. z ++ s.values ∷ schemas more) h.1)) (Opening ∷ WordsOf k.0 ∷ Closing ∷ Closing ∷ []) k.1
says_again said.Wrong a s e n h = λ more k. h (s ∷ more) (subst NamesIfc4 (later a s more) k)

-- the tokens of a statement's values, where they are one list of one text
only_values : (bytes : List ℕ) (t : Token) (inside : ℕ) (s : Statement) (spelled : List ℕ) → IsStatementAt bytes t inside s → OnlyText bytes inside spelled → s.values ≡ Opening ∷ WordsOf spelled ∷ Closing ∷ Closing ∷ []
only_values bytes t inside s spelled h o =
    one_list (Inside None ∷ []) bytes inside h.2 o.0 s.values (Opening ∷ WordsOf spelled ∷ Closing ∷ Closing ∷ []) h.3 o.1 (complete (Inside None ∷ []) (classes s.values) h.1) refl

pub says_ifc4 : (bytes : List ℕ) (t : Token) (inside : ℕ) (a : List Statement) (s : Statement) → is_schema s ≡ true → IsStatementAt bytes t inside s → OnlyIfc4 bytes inside → SaysSchema said.Unnamed a → SaysSchema said.Ifc4 (a ++ s ∷ [])
says_ifc4 bytes t inside a s e h o u =
    (o.0, one_more a s [] e ∙ ap (λ z. z ++ s.values ∷ []) u ∙ ap (λ z. z ∷ []) (only_values bytes t inside s o.0 h o.1), o.2)

pub says_wrong : (bytes : List ℕ) (t : Token) (inside : ℕ) (a : List Statement) (s : Statement) → is_schema s ≡ true → IsStatementAt bytes t inside s → (OnlyIfc4 bytes inside → ⊥) → SaysSchema said.Unnamed a
    → SaysSchema said.Wrong (a ++ s ∷ [])
says_wrong bytes t inside a s e h o u = λ more k.
    (let all : s.values ∷ schemas more ≡ (Opening ∷ WordsOf k.0 ∷ Closing ∷ Closing ∷ []) ∷ [] = sym (ap schemas (later a s more) ∙ one_more a s more e ∙ ap (λ z. z ++ s.values ∷ schemas more) u) ∙ k.1 in
    let same : s.values ≡ Opening ∷ WordsOf k.0 ∷ Closing ∷ Closing ∷ [] = cc in
    let P : List Lexeme → Type 0 = λ ls. Cuts bytes inside ls h.2 in
    o (k.0, (h.2, subst P same h.3), k.2))

-- A part of the header: a statement, or its end.

after_end_no : (c : Class) → (c ≡ Open → ⊥) → (c ≡ Semi → ⊥) → next AfterEnd c ≡ None
after_end_no Open a b = absurd (a refl)
after_end_no Semi a b = absurd (b refl)
after_end_no c a b = refl

opening_no : (c : Class) → (c ≡ Open → ⊥) → next (T Open) c ≡ None
opening_no Open a = absurd (a refl)
opening_no c a = refl

-- what is wanted after a word among the statements
record Behind (m : Mark) : Type 0 where
  sign : Sign
  others : List Sign
  begins : next Statements (Word m) ≡ Some (sign ∷ others)
  refuses : (c : Class) → (c ≡ Open → ⊥) → (c ≡ Semi → m ≡ EndSec → ⊥) → next sign c ≡ None

behind_plain : (m : Mark) → next Statements (Word m) ≡ Some (T Open ∷ Inside None ∷ T Semi ∷ Statements ∷ []) → Behind m
behind_plain m n = record { sign = T Open; others = Inside None ∷ T Semi ∷ Statements ∷ []; begins = n; refuses = λ c a b. opening_no c a }

behind_word : (m : Mark) → Behind m
behind_word EndSec = record { sign = AfterEnd; others = []; begins = refl; refuses = λ c a b. after_end_no c a (λ e. b e refl) }
behind_word Iso = behind_plain Iso refl
behind_word Header = behind_plain Header refl
behind_word Data = behind_plain Data refl
behind_word EndIso = behind_plain EndIso refl
behind_word Other = behind_plain Other refl

pub word_class : (c : Class) (k : Kind) → k ≡ kind_of c → k ≡ kinds.Word → (m : Mark) × (c ≡ Word m)
word_class (Word m) k e f = (m, refl)
word_class c k e f = let g : kind_of c ≡ kinds.Word = sym e ∙ f in cc

word_lexeme : (l : Lexeme) → kind_of (class_of l) ≡ kinds.Word → (k : List ℕ) × (l ≡ KeywordOf k)
word_lexeme (KeywordOf k) h = (k, refl)
word_lexeme l h = cc

class_open : (c : Class) → c ≡ Open → kind_of c ≡ kinds.Open
class_open c e = rw e refl

class_semicolon : (c : Class) → c ≡ Semi → kind_of c ≡ kinds.Semicolon
class_semicolon c e = rw e refl

statements_no : (c : Class) → (kind_of c ≡ kinds.Word → ⊥) → next Statements c ≡ None
statements_no (Word m) a = absurd (a refl)
statements_no c a = refl

pub part_refused : (bytes : List ℕ) (at : ℕ) (w : Piece) → CutsFrom bytes at (Ok (Some w.token)) → IsPiece bytes w → (w.kind ≡ kinds.Word → ⊥) → Fails (Statements ∷ []) bytes at (faults.BadStatement w.token.start)
part_refused bytes at w h i n = fails_refused Statements [] bytes at w.token.start w.token h (statements_no (class_of (lexeme_of bytes w.token)) (λ e. n (i.seen ∙ e))) refl

word_goes : (bytes : List ℕ) (at : ℕ) (w : Piece) → CutsFrom bytes at (Ok (Some w.token)) → (m : Mark) (e : class_of (lexeme_of bytes w.token) ≡ Word m) (b : Behind m)
    → Goes (Statements ∷ []) (b.sign ∷ b.others) bytes at w.token.end (lexeme_of bytes w.token ∷ [])
word_goes bytes at w h m e b = goes_one Statements (b.sign ∷ b.others) bytes at w.token h (ap (λ x. next Statements x) e ∙ b.begins)

-- no token after the word
pub part_none : (bytes : List ℕ) (at : ℕ) (w : Piece) (f : ReadFault) → CutsFrom bytes at (Ok (Some w.token)) → IsPiece bytes w → w.kind ≡ kinds.Word → NoToken bytes w.token.end f → Fails (Statements ∷ []) bytes at f
part_none bytes at w f h i k n =
    let c = word_class (class_of (lexeme_of bytes w.token)) w.kind i.seen k in
    let b = behind_word c.0 in
    fails_after (Statements ∷ []) (b.sign ∷ b.others) bytes at w.token.end (lexeme_of bytes w.token ∷ []) f (word_goes bytes at w h c.0 c.1 b) (fails_none b.sign b.others bytes w.token.end f n)

-- a token after the word that can't stand there
pub part_stuck : (bytes : List ℕ) (at : ℕ) (w v : Piece) → CutsFrom bytes at (Ok (Some w.token)) → IsPiece bytes w → w.kind ≡ kinds.Word → CutsFrom bytes w.token.end (Ok (Some v.token)) → IsPiece bytes v
    → (v.kind ≡ kinds.Open → ⊥) → (v.kind ≡ kinds.Semicolon → class_of (lexeme_of bytes w.token) ≡ Word EndSec → ⊥) → Fails (Statements ∷ []) bytes at (faults.BadStatement v.token.start)
part_stuck bytes at w v h i k g j n o =
    let c = word_class (class_of (lexeme_of bytes w.token)) w.kind i.seen k in
    let b = behind_word c.0 in
    let d = class_of (lexeme_of bytes v.token) in
    fails_after (Statements ∷ []) (b.sign ∷ b.others) bytes at w.token.end (lexeme_of bytes w.token ∷ []) (faults.BadStatement v.token.start) (word_goes bytes at w h c.0 c.1 b)
    (fails_refused b.sign b.others bytes w.token.end v.token.start v.token g
    (b.refuses d (λ e. n (j.seen ∙ class_open d e)) (λ e m. o (j.seen ∙ class_semicolon d e) (c.1 ∙ ap Word m))) refl)

two_open : (m : Mark) (α : List Sign) → run (Statements ∷ α) (Word m ∷ Open ∷ []) ≡ Some (Inside None ∷ T Semi ∷ Statements ∷ α)
two_open EndSec α = refl
two_open Iso α = refl
two_open Header α = refl
two_open Data α = refl
two_open EndIso α = refl
two_open Other α = refl

opened : (bytes : List ℕ) (at : ℕ) (w v : Piece) → CutsFrom bytes at (Ok (Some w.token)) → IsPiece bytes w → w.kind ≡ kinds.Word → CutsFrom bytes w.token.end (Ok (Some v.token)) → IsPiece bytes v → v.kind ≡ kinds.Open
    → Goes (Statements ∷ []) (Inside None ∷ T Semi ∷ Statements ∷ []) bytes at v.token.end (lexeme_of bytes w.token ∷ lexeme_of bytes v.token ∷ [])
opened bytes at w v h i k g j o =
    let c = word_class (class_of (lexeme_of bytes w.token)) w.kind i.seen k in
    let d : lexeme_of bytes v.token ≡ Opening = sign_said kinds.Open (lexeme_of bytes v.token) tt (sym j.seen ∙ o) in
    record { cuts = (w.token, h, refl, (v.token, g, refl, refl)); leads = λ α. ap (λ x. run (Statements ∷ α) (x ∷ class_of (lexeme_of bytes v.token) ∷ [])) c.1 ∙ ap (λ x. run (Statements ∷ α) (Word c.0 ∷ class_of x ∷ [])) d ∙ two_open c.0 α }

pub part_values : (bytes : List ℕ) (at : ℕ) (w v : Piece) (f : ReadFault) → CutsFrom bytes at (Ok (Some w.token)) → IsPiece bytes w → w.kind ≡ kinds.Word → CutsFrom bytes w.token.end (Ok (Some v.token)) → IsPiece bytes v → v.kind ≡ kinds.Open
    → Fails (Inside None ∷ []) bytes v.token.end f → Fails (Statements ∷ []) bytes at f
part_values bytes at w v f h i k g j o x =
    fails_after (Statements ∷ []) (Inside None ∷ T Semi ∷ Statements ∷ []) bytes at v.token.end (lexeme_of bytes w.token ∷ lexeme_of bytes v.token ∷ []) f (opened bytes at w v h i k g j o)
    (fails_under (Inside None ∷ []) (T Semi ∷ Statements ∷ []) bytes v.token.end f x)

filled : (bytes : List ℕ) (at close : ℕ) (w v : Piece) → CutsFrom bytes at (Ok (Some w.token)) → IsPiece bytes w → w.kind ≡ kinds.Word → CutsFrom bytes w.token.end (Ok (Some v.token)) → IsPiece bytes v → v.kind ≡ kinds.Open
    → (p : Passes (Inside None ∷ []) bytes v.token.end (Ok close)) → Goes (Statements ∷ []) (T Semi ∷ Statements ∷ []) bytes at close ((lexeme_of bytes w.token ∷ lexeme_of bytes v.token ∷ []) ++ p.0)
filled bytes at close w v h i k g j o p =
    goes_trans (Statements ∷ []) (Inside None ∷ T Semi ∷ Statements ∷ []) (T Semi ∷ Statements ∷ []) bytes at v.token.end close (lexeme_of bytes w.token ∷ lexeme_of bytes v.token ∷ []) p.0 (opened bytes at w v h i k g j o)
    (goes_under (Inside None ∷ []) [] (T Semi ∷ Statements ∷ []) bytes v.token.end close p.0 p.1)

pub part_semicolon : (bytes : List ℕ) (at close : ℕ) (w v : Piece) (f : ReadFault) → CutsFrom bytes at (Ok (Some w.token)) → IsPiece bytes w → w.kind ≡ kinds.Word → CutsFrom bytes w.token.end (Ok (Some v.token)) → IsPiece bytes v → v.kind ≡ kinds.Open
    → Passes (Inside None ∷ []) bytes v.token.end (Ok close) → Fails (T Semi ∷ []) bytes close f → Fails (Statements ∷ []) bytes at f
part_semicolon bytes at close w v f h i k g j o p x =
    fails_after (Statements ∷ []) (T Semi ∷ Statements ∷ []) bytes at close ((lexeme_of bytes w.token ∷ lexeme_of bytes v.token ∷ []) ++ p.0) f (filled bytes at close w v h i k g j o p)
    (fails_under (T Semi ∷ []) (Statements ∷ []) bytes close f x)

pub part_statement : (bytes : List ℕ) (at close end : ℕ) (w v : Piece) → at ≤ w.token.start → w.token.end ≤ v.token.start → close < end → end ≤ length bytes
    → CutsFrom bytes at (Ok (Some w.token)) → IsPiece bytes w → w.kind ≡ kinds.Word → CutsFrom bytes w.token.end (Ok (Some v.token)) → IsPiece bytes v → v.kind ≡ kinds.Open
    → Passes (Inside None ∷ []) bytes v.token.end (Ok close) → Goes (T Semi ∷ []) [] bytes close end (Ending ∷ []) → ReadsPart bytes at (Ok (parts.Statement w v.token.end end))
part_statement bytes at close end w v on1 on2 on3 long h i k g j o p x =
    let l = word_lexeme (lexeme_of bytes w.token) (sym i.seen ∙ k) in
    let d : lexeme_of bytes v.token ≡ Opening = sign_said kinds.Open (lexeme_of bytes v.token) tt (sym j.seen ∙ o) in
    let s : Statement = record { keyword = l.0; values = p.0 } in
    let on4 = cuts_on bytes v.token.end close p.0 j.within p.1.cuts in
    let derived : Derives (Inside None ∷ []) (classes p.0) = sound (Inside None ∷ []) (classes p.0) (p.1.leads []) in (
      i,
      k,
      j.within,
      long,
      omega (arith, on1, on2, on3, on4, i.some, j.some),
      s,
      (l.1, derived, close, p.1.cuts),
      ((lexeme_of bytes w.token ∷ lexeme_of bytes v.token ∷ []) ++ p.0) ++ Ending ∷ [],
      (ap (λ y. y ∷ lexeme_of bytes v.token ∷ (p.0 ++ Ending ∷ [])) l.1 ∙ ap (λ y. KeywordOf l.0 ∷ y ∷ (p.0 ++ Ending ∷ [])) d, derived),
      goes_trans (Statements ∷ []) (T Semi ∷ Statements ∷ []) (Statements ∷ []) bytes at close end ((lexeme_of bytes w.token ∷ lexeme_of bytes v.token ∷ []) ++ p.0) (Ending ∷ []) (filled bytes at close w v h i k g j o p)
          (goes_under (T Semi ∷ []) [] (Statements ∷ []) bytes close end (Ending ∷ []) x),
    )

-- ENDSEC and a semicolon
ended : (bytes : List ℕ) (at : ℕ) (w v : Piece) → CutsFrom bytes at (Ok (Some w.token)) → class_of (lexeme_of bytes w.token) ≡ Word EndSec → CutsFrom bytes w.token.end (Ok (Some v.token)) → IsPiece bytes v → v.kind ≡ kinds.Semicolon
    → Goes (Statements ∷ []) (T (Word Data) ∷ T Semi ∷ []) bytes at v.token.end (lexeme_of bytes w.token ∷ lexeme_of bytes v.token ∷ [])
ended bytes at w v h e g j o =
    let d : lexeme_of bytes v.token ≡ Ending = sign_said kinds.Semicolon (lexeme_of bytes v.token) tt (sym j.seen ∙ o) in
    record { cuts = (w.token, h, refl, (v.token, g, refl, refl)); leads = λ α. ap (λ x. run (Statements ∷ α) (x ∷ class_of (lexeme_of bytes v.token) ∷ [])) e ∙ ap (λ x. run (Statements ∷ α) (Word EndSec ∷ class_of x ∷ [])) d }

pub part_ends : (bytes : List ℕ) (at : ℕ) (w v : Piece) (f : ReadFault) → CutsFrom bytes at (Ok (Some w.token)) → class_of (lexeme_of bytes w.token) ≡ Word EndSec → CutsFrom bytes w.token.end (Ok (Some v.token)) → IsPiece bytes v
    → v.kind ≡ kinds.Semicolon → Fails (T (Word Data) ∷ T Semi ∷ []) bytes v.token.end f → Fails (Statements ∷ []) bytes at f
part_ends bytes at w v f h e g j o x =
    fails_after (Statements ∷ []) (T (Word Data) ∷ T Semi ∷ []) bytes at v.token.end (lexeme_of bytes w.token ∷ lexeme_of bytes v.token ∷ []) f (ended bytes at w v h e g j o) x

pub part_data : (bytes : List ℕ) (at end : ℕ) (w v : Piece) → end ≤ length bytes → CutsFrom bytes at (Ok (Some w.token)) → class_of (lexeme_of bytes w.token) ≡ Word EndSec → CutsFrom bytes w.token.end (Ok (Some v.token)) → IsPiece bytes v
    → v.kind ≡ kinds.Semicolon → ReadsData bytes v.token.end (Ok end) → ReadsPart bytes at (Ok (parts.Data end))
part_data bytes at end w v long h e g j o x =
    let d : lexeme_of bytes v.token ≡ Ending = sign_said kinds.Semicolon (lexeme_of bytes v.token) tt (sym j.seen ∙ o) in (
      long,
      (lexeme_of bytes w.token ∷ lexeme_of bytes v.token ∷ []) ++ x.0,
      ap (λ y. y ∷ class_of (lexeme_of bytes v.token) ∷ classes x.0) e ∙ ap (λ y. Word EndSec ∷ class_of y ∷ classes x.0) d ∙ ap (λ y. Word EndSec ∷ Semi ∷ y) x.1,
      goes_trans (Statements ∷ []) (T (Word Data) ∷ T Semi ∷ []) [] bytes at v.token.end end (lexeme_of bytes w.token ∷ lexeme_of bytes v.token ∷ []) x.0 (ended bytes at w v h e g j o) x.2,
    )

-- so many statements are read
pub record Stated (bytes : List ℕ) (from at : ℕ) (schema : Schema) : Type 0 where
  pub statements : List Statement
  pub middle : List Lexeme
  pub spelled : SpellsStatements statements middle
  pub goes : Goes (Statements ∷ []) (Statements ∷ []) bytes from at middle
  pub says : SaysSchema schema statements

pub stated_more : (bytes : List ℕ) (from at inside end : ℕ) (old new : Schema) (w : Piece) (h : Stated bytes from at old) → ReadsPart bytes at (Ok (parts.Statement w inside end))
    → ((before : List Statement) (s : Statement) → IsStatementAt bytes w.token inside s → SaysSchema old before → SaysSchema new (before ++ s ∷ [])) → Stated bytes from end new
stated_more bytes from at inside end old new w h p j = record {
  statements = h.statements ++ p.5 ∷ [];
  middle = h.middle ++ p.7;
  spelled = statements_more h.statements p.5 h.middle p.7 h.spelled p.8;
  goes = goes_trans (Statements ∷ []) (Statements ∷ []) (Statements ∷ []) bytes from at end h.middle p.7 h.goes p.9;
  says = j h.statements p.5 p.6 h.says;
}

pub stated_fails : (bytes : List ℕ) (from at : ℕ) (schema : Schema) (f : ReadFault) → Stated bytes from at schema → Fails (Statements ∷ []) bytes at f → Fails (Statements ∷ []) bytes from f
stated_fails bytes from at schema f h k = fails_after (Statements ∷ []) (Statements ∷ []) bytes from at h.middle f h.goes k

unnamed : (ss : List Statement) → schemas ss ≡ [] → NamesIfc4 ss → ⊥
unnamed ss e n = let f : [] ≡ (Opening ∷ WordsOf n.0 ∷ Closing ∷ Closing ∷ []) ∷ [] = sym e ∙ n.1 in cc

pub says_named : (schema : Schema) (ss : List Statement) → SaysSchema schema ss → schema ≡ said.Ifc4 → NamesIfc4 ss
says_named said.Ifc4 ss h e = h
says_named schema ss h e = cc

pub says_unnamed : (schema : Schema) (ss : List Statement) → SaysSchema schema ss → (schema ≡ said.Ifc4 → ⊥) → NamesIfc4 ss → ⊥
says_unnamed said.Unnamed ss h e = unnamed ss h
says_unnamed said.Ifc4 ss h e = absurd (e refl)
says_unnamed said.Wrong ss h e = λ n. h [] (subst NamesIfc4 (sym (append_nil ss)) n)

pub stated_whole : (bytes : List ℕ) (from at end : ℕ) (schema : Schema) (head : Head) (h : Stated bytes from at schema) → ReadsPart bytes at (Ok (parts.Data end)) → head.end ≡ end → (IsTrue head.is_ifc4 ↔ NamesIfc4 h.statements)
    → ReadsStatements bytes from (Ok head)
stated_whole bytes from at end schema head h p e i =
    let g = goes_trans (Statements ∷ []) (Statements ∷ []) [] bytes from at end h.middle p.1 h.goes p.3 in
    (h.statements, h.middle, p.1, h.spelled, p.2, (let P : ℕ → Type 0 = λ n. Goes (Statements ∷ []) [] bytes from n (h.middle ++ p.1) in subst P (sym e) g), i)

-- A header, from its word HEADER on.

pub header_whole : (bytes : List ℕ) (at mid : ℕ) (r : Result Head ReadFault) → WordEnds Header bytes at (Ok mid) → ReadsStatements bytes mid r → ReadsHeader bytes at r
header_whole bytes at mid (Ok head) w s = (
  s.0,
  w.0,
  s.1,
  s.2,
  w.1,
  s.3,
  s.4,
  goes_trans (T (Word Header) ∷ T Semi ∷ Statements ∷ []) (Statements ∷ []) [] bytes at mid head.end w.0 (s.1 ++ s.2) (goes_under (T (Word Header) ∷ T Semi ∷ []) [] (Statements ∷ []) bytes at mid w.0 w.2) s.5,
  s.6,
)
header_whole bytes at mid (Err f) w s =
    fails_after (T (Word Header) ∷ T Semi ∷ Statements ∷ []) (Statements ∷ []) bytes at mid w.0 f (goes_under (T (Word Header) ∷ T Semi ∷ []) [] (Statements ∷ []) bytes at mid w.0 w.2) s
