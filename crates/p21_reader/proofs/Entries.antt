-- An instance comes into the table: its keyword, the starts of its values, and its head.
use Rattle.std.proofs.Common.{◌≡◌, ℕ, ◌+◌, ◌-◌, ◌^◌, ◌<◌, ◌≤◌, List, [], ◌∷◌, ◌++◌, length, map, take, drop, sum_by, Option, Some, None, Result, Ok, Err, arith, refl, sym, ap, subst, ◌∙◌, length-append, length-drop, slice_range}
use Rattle.std.specs.Prelude.{IfOk}
use Rattle.std.proofs.Math.Seq.{drop-append_seam, take-length}
use Rattle.std.proofs.lemmas.List.{drop-append-le, take-append-le}
use Rattle.std.specs.Char.{to_ascii_uppercase}
use Rattle.p21_lexer.specs.declared.token.Token.{Token}
use Rattle.p21_lexer.specs.declared.token.TokenKind.{TokenKind}
use Rattle.p21_lexer.specs.declared.token.TokenKind.TheVariants as tokens
use Rattle.p21_lexer.specs.Spelling.{Spells, IsWord}
use Rattle.p21_lexer.specs.Cutting.{CutsFrom}
use Rattle.p21_values.specs.declared.limits.TheConstants.{MOST_DEPTH}
use Rattle.p21_values.specs.declared.fault.ReadFault.{ReadFault}
use Rattle.p21_values.specs.declared.piece.Kind.{Kind}
use Rattle.p21_values.specs.declared.piece.Kind.TheVariants as kinds
use Rattle.ifc_keywords.specs.Codes.{code_of, code_at}
use Rattle.p21_values.specs.declared.value.Value21.{Value21}
use Rattle.p21_values.specs.declared.value.Instance.{Instance}
use Rattle.p21_values.specs.declared.instance_head.Head.{Head}
use Rattle.p21_reader.specs.declared.table.Table.{Table}
use Rattle.p21_values.specs.Grammar.{Class, Name, Open, Semi, Equals, Word, Sign, T, AnyWord, Instances, Body, Ones, Inside}
use Rattle.p21_reader.specs.Machine.{next}
use Rattle.p21_values.specs.Lexemes.{Lexeme, lexeme_of, class_of, says, Opening, Closing, Ending, Assigning, KeywordOf, ReferenceTo}
use Rattle.p21_values.specs.Printing.{print_all}
use Rattle.p21_values.specs.Counting.{size, values_of}
use Rattle.p21_reader.specs.inner.TokenReading.{Goes, Fails}
use Rattle.p21_values.specs.TokenPieces.{kind_of}
use Rattle.p21_reader.specs.Instances.{Passes, SpellsBody}
use Rattle.p21_reader.specs.ExchangeFiles.{ReadsClosing}
use Rattle.p21_values.specs.Standing.{StandAt}
use Rattle.p21_reader.specs.inner.Tabling.{Counts, PutsStarts, PutsBody, PutsInstance, TablesSection}
use Rattle.p21_values.specs.Tables.{NamesKeyword, Tells, Holds}
use Rattle.p21_reader.proofs.Steps.{fails_past, fails_under, cuts_on}
use Rattle.p21_reader.proofs.Lists.{said}
use Rattle.p21_values.proofs.Contents.{word_kind}
use Rattle.p21_reader.proofs.Bodies.{opens_goes, opens_fails, body_open, body_derives, instance_end, instance_named}
use Rattle.p21_reader.proofs.FileLemmas.{Many, many_step, many_fails, many_closed}
use Rattle.p21_reader.proofs.Tabled.{append_nil, no_start, counts_none, counts_again, sum_append, zip_append}

-- What stands between the equals sign and the semicolon.

class_body_word : (c : Class) → kind_of c ≡ kinds.Word → next Body c ≡ Some (T Open ∷ Inside (Some (MOST_DEPTH - 1)) ∷ [])
class_body_word (Word m) h = refl
class_body_word c h = cc

keyword_said : (l : Lexeme) → kind_of (class_of l) ≡ kinds.Word → (w : List ℕ) × (l ≡ KeywordOf w)
keyword_said (KeywordOf w) h = (w, refl)
keyword_said l h = cc

pub puts_unopened : (bytes : List ℕ) (t : Token) (old new : Table) (f : ReadFault) → kinds.Word ≡ kind_of (class_of (lexeme_of bytes t)) → Fails (T Open ∷ []) bytes t.end f → PutsBody bytes t old new (Err f)
puts_unopened bytes t old new f e k =
    fails_past Body (T Open ∷ Inside (Some (MOST_DEPTH - 1)) ∷ []) bytes t f (class_body_word (class_of (lexeme_of bytes t)) (sym e)) (fails_under (T Open ∷ []) (Inside (Some (MOST_DEPTH - 1)) ∷ []) bytes t.end f k)

pub puts_plain : (bytes : List ℕ) (t : Token) (opened : ℕ) (old new : Table) (r : Result ℕ ReadFault) → kinds.Word ≡ kind_of (class_of (lexeme_of bytes t)) → Goes (T Open ∷ []) [] bytes t.end opened (Opening ∷ [])
    → PutsStarts (MOST_DEPTH - 1) bytes opened old new r → PutsBody bytes t old new r
puts_plain bytes t opened old new (Ok end) e g p =
    let w = keyword_said (lexeme_of bytes t) (sym e) in (
      Some w.0,
      p.1,
      p.0,
      T Open ∷ Inside (Some (MOST_DEPTH - 1)) ∷ [],
      class_body_word (class_of (lexeme_of bytes t)) (sym e),
      (Opening ∷ (print_all p.1 ++ Closing ∷ []), ap (λ x. x ∷ Opening ∷ (print_all p.1 ++ Closing ∷ [])) w.1, opens_goes (MOST_DEPTH - 1) bytes t.end opened end (print_all p.1 ++ Closing ∷ []) g p.5),
      p.2,
      p.3,
      p.4,
    )
puts_plain bytes t opened old new (Err f) e g p =
    fails_past Body (T Open ∷ Inside (Some (MOST_DEPTH - 1)) ∷ []) bytes t f (class_body_word (class_of (lexeme_of bytes t)) (sym e)) (opens_fails (MOST_DEPTH - 1) bytes t.end opened f g p)

abbrev parts : List Sign
parts = AnyWord ∷ T Open ∷ Inside (Some (MOST_DEPTH - 2)) ∷ Ones ∷ []

pub puts_complex : (bytes : List ℕ) (t : Token) (table : Table) (r : Result ℕ ReadFault) → kinds.Open ≡ kind_of (class_of (lexeme_of bytes t)) → table.values < 2 ^ 64
    → Passes (AnyWord ∷ T Open ∷ Inside (Some (MOST_DEPTH - 2)) ∷ Ones ∷ []) bytes t.end r → PutsBody bytes t table table r
puts_complex bytes t table (Ok end) e s p = (
  None,
  [],
  [],
  parts,
  body_open (lexeme_of bytes t) e,
  (p.0, (refl, p.0, ap (λ x. x ∷ p.0) (said (lexeme_of bytes t) kinds.Open tt e), body_derives (lexeme_of bytes t) parts p.0 (body_open (lexeme_of bytes t) e) (p.1.leads [])), p.1),
  sym (append_nil table.starts.items),
  (tt, λ start more e. absurd (no_start start more e)),
  counts_none table.values s,
)
puts_complex bytes t table (Err f) e s p = fails_past Body parts bytes t f (body_open (lexeme_of bytes t) e) p

pub complex_on : (n : ℕ) (σ : List Sign) (bytes : List ℕ) (at : ℕ) (r : Result ℕ ReadFault) → at ≤ length bytes → Passes σ bytes at r → IfOk r (λ end. n + at ≤ n + end)
complex_on n σ bytes at (Ok end) h p = let e = cuts_on bytes at end p.0 h p.1.cuts in omega (arith, e)
complex_on n σ bytes at (Err f) h p = tt

pub complex_past : (σ : List Sign) (bytes : List ℕ) (at : ℕ) (r : Result ℕ ReadFault) → at ≤ length bytes → Passes σ bytes at r → IfOk r (λ end. at ≤ end)
complex_past σ bytes at (Ok end) h p = cuts_on bytes at end p.0 h p.1.cuts
complex_past σ bytes at (Err f) h p = tt

-- A whole instance.

pub entry_end : (bytes : List ℕ) (at opened end : ℕ) (old new : Table) (t : Token) (f : ReadFault) → Goes (T Equals ∷ []) [] bytes at opened (Assigning ∷ []) → CutsFrom bytes opened (Ok (Some t)) → PutsBody bytes t old new (Ok end)
    → Fails (T Semi ∷ []) bytes end f → Fails (T Equals ∷ Body ∷ T Semi ∷ []) bytes at f
entry_end bytes at opened end old new t f e h b k = instance_end bytes at opened end t b.3 b.5.0 f e h b.4 b.5.2 k

heads_one : (l m : Lexeme) (ls ms : List Lexeme) → l ∷ ls ≡ m ∷ ms → l ≡ m
heads_one l m ls ms e = cc

same_word : (v w : List ℕ) → KeywordOf v ≡ KeywordOf w → v ≡ w
same_word v w e = cc

word_named : (bytes : List ℕ) (t : Token) (w : List ℕ) → t.kind ≡ tokens.Word → ∥ Spells t.kind (slice_range bytes t.start t.end) ∥₁ → lexeme_of bytes t ≡ KeywordOf w → t.end ≤ length bytes
    → (t.end ≤ length bytes) × ∥ IsWord (slice_range bytes t.start t.end) ∥₁ × (map to_ascii_uppercase (slice_range bytes t.start t.end) ≡ w)
word_named bytes t w k s l i =
    let P : TokenKind → Type 0 = λ x. ∥ Spells x (slice_range bytes t.start t.end) ∥₁ in
    let Q : TokenKind → Type 0 = λ x. says x (slice_range bytes t.start t.end) ≡ KeywordOf w in
    (i, subst P k s, same_word (map to_ascii_uppercase (slice_range bytes t.start t.end)) w (subst Q k l))

-- a token that is cut ends within the bytes
cut_within : (bytes : List ℕ) (at : ℕ) (t : Token) → CutsFrom bytes at (Ok (Some t)) → t.end ≤ length bytes
cut_within bytes at t h =
    let w = h.2.within in
    let d = length-drop t.start bytes in
    omega (arith, h.0.0, h.1, w, d)

keyword_named : (bytes : List ℕ) (t : Token) (k : Kind) (word end : ℕ) (keyword : Option (List ℕ)) (vs : List Value21) (rest : List Lexeme) → k ≡ kind_of (class_of (lexeme_of bytes t)) → ∥ Spells t.kind (slice_range bytes t.start t.end) ∥₁
    → t.end ≤ length bytes → word ≡ t.start → (k ≡ kinds.Word → end ≡ t.end) → ((k ≡ kinds.Word → ⊥) → end ≡ t.start) → SpellsBody keyword vs (lexeme_of bytes t ∷ rest) → NamesKeyword bytes word end keyword
keyword_named bytes t k word end None vs rest e s i w a b h =
    let l : lexeme_of bytes t ≡ Opening = heads_one (lexeme_of bytes t) Opening rest h.1 h.2 in
    let n : k ≡ kinds.Open = e ∙ ap (λ x. kind_of (class_of x)) l in
    w ∙ sym (b (λ m. let x : kinds.Open ≡ kinds.Word = sym n ∙ m in cc))
keyword_named bytes t k word end (Some v) vs rest e s i w a b h =
    let l : lexeme_of bytes t ≡ KeywordOf v = heads_one (lexeme_of bytes t) (KeywordOf v) rest (Opening ∷ (print_all vs ++ Closing ∷ [])) h in
    let n : kind_of (class_of (lexeme_of bytes t)) ≡ kinds.Word = ap (λ x. kind_of (class_of x)) l in
    let f : end ≡ t.end = a (e ∙ n) in
    rw (w, f) (word_named bytes t v (word_kind t.kind (slice_range bytes t.start t.end) n) s l i)

code_named : (bytes : List ℕ) (t : Token) (k : Kind) (code : ℕ) (keyword : Option (List ℕ)) (vs : List Value21) (rest : List Lexeme) → k ≡ kind_of (class_of (lexeme_of bytes t)) → ∥ Spells t.kind (slice_range bytes t.start t.end) ∥₁
    → t.end ≤ length bytes → (k ≡ kinds.Word → code ≡ code_of (map to_ascii_uppercase (slice_range bytes t.start t.end))) → ((k ≡ kinds.Word → ⊥) → code ≡ 255) → SpellsBody keyword vs (lexeme_of bytes t ∷ rest) → code ≡ code_at keyword
code_named bytes t k code None vs rest e s i a b h =
    let l : lexeme_of bytes t ≡ Opening = heads_one (lexeme_of bytes t) Opening rest h.1 h.2 in
    let n : k ≡ kinds.Open = e ∙ ap (λ x. kind_of (class_of x)) l in
    b (λ m. let x : kinds.Open ≡ kinds.Word = sym n ∙ m in cc)
code_named bytes t k code (Some v) vs rest e s i a b h =
    let l : lexeme_of bytes t ≡ KeywordOf v = heads_one (lexeme_of bytes t) (KeywordOf v) rest (Opening ∷ (print_all vs ++ Closing ∷ [])) h in
    let n : kind_of (class_of (lexeme_of bytes t)) ≡ kinds.Word = ap (λ x. kind_of (class_of x)) l in
    a (e ∙ n) ∙ ap code_of (word_named bytes t v (word_kind t.kind (slice_range bytes t.start t.end) n) s l i).2

take_all : (xs : List ℕ) (n : ℕ) → n ≡ length xs → take n xs ≡ xs
take_all xs n e = rw e (take-length xs)

starts_taken : (old starts new : List ℕ) (first count : ℕ) → new ≡ old ++ starts → first ≡ length old → count ≡ length new - length old → take count (drop first new) ≡ starts
starts_taken old starts new first count e f m =
    let d : drop first new ≡ starts = ap (λ x. drop first x) e ∙ ap (λ x. drop x (old ++ starts)) f ∙ drop-append_seam old starts in
    let s = ap length e in
    let a = length-append old starts in
    ap (λ x. take count x) d ∙ take_all starts count (omega (arith, m, s, a))

first_within : (old starts new : List ℕ) (first count : ℕ) → new ≡ old ++ starts → first ≡ length old → count ≡ length new - length old → first + count ≤ length new
first_within old starts new first count e f m =
    let s = ap length e in
    let a = length-append old starts in
    omega (arith, m, s, a, f)

counts_back : (a b n : ℕ) → Counts a b (0 + n) → Counts a b n
counts_back a b n h = omega (arith, h)

counts_alone : (a b n : ℕ) → Counts a b n → Counts a b (0 + n)
counts_alone a b n h = omega (arith, h)

-- how many values an instance has
abbrev many : Instance → ℕ
many i = sum_by size i.values

pub entry_made : (bytes : List ℕ) (name : Lexeme) (at opened end close : ℕ) (old new final : Table) (head : Head) (t : Token) (k : Kind) → ReferenceTo head.id ≡ name → Goes (T Equals ∷ []) [] bytes at opened (Assigning ∷ [])
    → CutsFrom bytes opened (Ok (Some t)) → k ≡ kind_of (class_of (lexeme_of bytes t)) → ∥ Spells t.kind (slice_range bytes t.start t.end) ∥₁ → PutsBody bytes t old new (Ok end) → Goes (T Semi ∷ []) [] bytes end close (Ending ∷ [])
    → head.word ≡ t.start → (k ≡ kinds.Word → head.word_end ≡ t.end) → ((k ≡ kinds.Word → ⊥) → head.word_end ≡ t.start)
    → (k ≡ kinds.Word → head.code ≡ code_of (map to_ascii_uppercase (slice_range bytes t.start t.end))) → ((k ≡ kinds.Word → ⊥) → head.code ≡ 255) → head.first ≡ length old.starts.items → head.count ≡ length new.starts.items - length old.starts.items
    → final.heads.items ≡ old.heads.items ++ head ∷ [] → final.starts.items ≡ new.starts.items → final.values ≡ new.values → PutsInstance name bytes at old final (Ok close)
entry_made bytes name at opened end close old new final head t k n e h seen s b x w a z u v f m hs fs fv =
    let d = instance_named bytes name at opened end close (record { id = head.id; keyword = b.0; values = b.1 }) t b.3 b.5.0 n e h b.4 b.5.1 b.5.2 x in
    let g : final.starts.items ≡ old.starts.items ++ b.2 = fs ∙ b.6 in
    let m2 : head.count ≡ length final.starts.items - length old.starts.items = m ∙ ap (λ y. length y - length old.starts.items) (sym fs) in (
      record { id = head.id; keyword = b.0; values = b.1 },
      head,
      b.2,
      d.rest,
      hs,
      g,
      record {
        number = refl;
        keyword = keyword_named bytes t k head.word head.word_end b.0 b.1 b.5.0 seen s (cut_within bytes opened t h) w a z b.5.1;
        coded = code_named bytes t k head.code b.0 b.1 b.5.0 seen s (cut_within bytes opened t h) u v b.5.1;
        within = first_within old.starts.items b.2 final.starts.items head.first head.count g f m2;
        values = subst (λ y. StandAt bytes y b.1) (sym (starts_taken old.starts.items b.2 final.starts.items head.first head.count g f m2)) b.7;
      },
      subst (λ y. Counts old.values y (values_of (record { id = head.id; keyword = b.0; values = b.1 } ∷ []))) (sym fv)
          (subst (λ y. Counts old.values new.values y) (sym (sum_append many [] (record { id = head.id; keyword = b.0; values = b.1 }))) (counts_alone old.values new.values (sum_by size b.1) b.8)),
      d.spelled,
      d.goes,
    )

-- The DATA section.

-- what a head told it tells when more starts have come
tells_more : (bytes starts more : List ℕ) (head : Head) (i : Instance) → Tells bytes starts head i → Tells bytes (starts ++ more) head i
tells_more bytes starts more head i h =
    let w = h.within in
    let d : drop head.first (starts ++ more) ≡ drop head.first starts ++ more = drop-append-le head.first starts more (omega (arith, w)) in
    let s = length-drop head.first starts in
    let e : take head.count (drop head.first (starts ++ more)) ≡ take head.count (drop head.first starts) =
    ap (λ x. take head.count x) d ∙ take-append-le head.count (drop head.first starts) more (omega (arith, w, s)) in
    let a = length-append starts more in
    record {
      number = h.number;
      keyword = h.keyword;
      coded = h.coded;
      within = omega (arith, w, a);
      values = subst (λ y. StandAt bytes y i.values) (sym e) h.values;
    }

holds_more : (bytes starts more : List ℕ) (heads : List Head) (is : List Instance) → Holds bytes starts heads is → Holds bytes (starts ++ more) heads is
holds_more bytes starts more [] [] h = tt
holds_more bytes starts more [] (i ∷ is) h = absurd h
holds_more bytes starts more (x ∷ heads) [] h = absurd h
holds_more bytes starts more (x ∷ heads) (i ∷ is) h = (tells_more bytes starts more x i h.0, holds_more bytes starts more heads is h.1)

-- so many instances are in the table
pub record Entered (bytes : List ℕ) (from at : ℕ) (table : Table) : Type 0 where
  pub found : List Instance
  pub read : Many bytes from at found
  pub holds : Holds bytes table.starts.items table.heads.items found
  pub counts : Counts 0 table.values (values_of found)

pub entered_step : (bytes : List ℕ) (from at end : ℕ) (t : Token) (old new : Table) → Entered bytes from at old → CutsFrom bytes at (Ok (Some t)) → next Instances (class_of (lexeme_of bytes t)) ≡ Some (T Equals ∷ Body ∷ T Semi ∷ Instances ∷ [])
    → PutsInstance (lexeme_of bytes t) bytes t.end old new (Ok end) → Entered bytes from end new
entered_step bytes from at end t old new r h n p = record {
  found = r.found ++ p.0 ∷ [];
  read = many_step bytes from at end t r.found p.0 r.read h n (record { rest = p.3; spelled = p.8; goes = p.9 });
  holds =
      (let more = holds_more bytes old.starts.items p.2 old.heads.items r.found r.holds in
      let same : Holds bytes new.starts.items old.heads.items r.found = subst (λ x. Holds bytes x old.heads.items r.found) (sym p.5) more in
      subst (λ (x : List Head). Holds bytes new.starts.items x (r.found ++ p.0 ∷ [])) (sym p.4) (zip_append (Tells bytes new.starts.items) old.heads.items r.found p.1 p.0 same p.6));
  counts =
      (let one : Counts old.values new.values (many p.0) = counts_back old.values new.values (many p.0) (subst (λ y. Counts old.values new.values y) (sum_append many [] p.0) p.7) in
      subst (λ y. Counts 0 new.values y) (sym (sum_append many r.found p.0)) (counts_again 0 old.values new.values (sum_by many r.found) (many p.0) r.counts one));
}

pub entered_fails : (bytes : List ℕ) (from at : ℕ) (table : Table) (f : ReadFault) → Entered bytes from at table → Fails (Instances ∷ []) bytes at f → Fails (Instances ∷ []) bytes from f
entered_fails bytes from at table f r k = many_fails bytes from at r.found f r.read k

pub entered_closed : (bytes : List ℕ) (from at : ℕ) (t : Token) (table : Table) (r : Result ℕ ReadFault) → Entered bytes from at table → CutsFrom bytes at (Ok (Some t)) → ReadsClosing bytes t r → TablesSection bytes from table r
entered_closed bytes from at t table (Ok end) e h c = (e.found, many_closed bytes from at t e.found (Ok end) e.read h c, e.holds, e.counts)
entered_closed bytes from at t table (Err f) e h c = many_closed bytes from at t e.found (Err f) e.read h c

pub below : (n m : ℕ) → Counts 0 n m → n < 2 ^ 64
below n m h = omega (arith, h)

pub entered_below : (bytes : List ℕ) (from at : ℕ) (table : Table) → Entered bytes from at table → table.values < 2 ^ 64
entered_below bytes from at table e = below table.values (values_of e.found) e.counts

class_instances_none : (c : Class) → (kind_of c ≡ kinds.Name → ⊥) → (kind_of c ≡ kinds.Word → ⊥) → next Instances c ≡ None
class_instances_none Name h k = absurd (h refl)
class_instances_none (Word m) h k = absurd (k refl)
class_instances_none c h k = refl

pub instances_none : (l : Lexeme) (k : Kind) → k ≡ kind_of (class_of l) → (k ≡ kinds.Name → ⊥) → (k ≡ kinds.Word → ⊥) → next Instances (class_of l) ≡ None
instances_none l k e h g = class_instances_none (class_of l) (λ x. h (e ∙ x)) (λ x. g (e ∙ x))
