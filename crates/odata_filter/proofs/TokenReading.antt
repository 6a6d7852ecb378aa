-- What a reading token by token says of a grammar whose texts its steps read.
use Rattle.std.proofs.Common.{◌≡◌, ℕ, zero, List, [], ◌∷◌, ◌++◌, length, drop, Option, Some, None, refl, sym, ap, ◌∙◌, subst, append_assoc}
use Rattle.std.proofs.lemmas.List.{append-nil, map-append}
use Rattle.std.specs.Prelude.{option_and_then}
use Rattle.odata_filter.specs.declared.filter_tokens.Token.{Token}
use Rattle.odata_filter.specs.FilterTokens.{tokens_from, tokens_of}
use Rattle.odata_filter.specs.FilterLexemes.{Lexeme, lexeme_of, lexemes, lexemes_of}
use Rattle.odata_filter.specs.Readings.{IsViable, StopsAt, EndsEarly}
use Rattle.odata_filter.proofs.Runs.{run, run_cons, run_then}

-- The steps read a grammar: each of its texts is read to its end and to what it means, what is read to its end is a
-- text of it, and what has been read begins one.
pub record Reads {S A : Type 0} (start : S) (step : S → Lexeme → Option S) (ended : S → Option A) (Means : List Lexeme → A → Type 0) : Type 0 where
  pub accepts : (ls : List Lexeme) (x : A) → Means ls x
      → (read : S) × (run step start ls ≡ Some read) × (ended read ≡ Some x)
  pub spells : (ls : List Lexeme) (read : S) (x : A) → run step start ls ≡ Some read → ended read ≡ Some x → Means ls x
  pub viable : (ls : List Lexeme) (read : S) → run step start ls ≡ Some read → IsViable Means ls

-- the tokens before a place of a text have been read
pub record HasRead {S : Type 0} (start : S) (step : S → Lexeme → Option S) (text : List ℕ) (at : ℕ) (read : S) : Type 0 where
  pub before : List Token
  pub cut : tokens_of text ≡ before ++ tokens_from at zero (drop at text)
  pub runs : run step start (lexemes text before) ≡ Some read

with_token : (text : List ℕ) (before : List Token) (t : Token)
    → lexemes text (before ++ t ∷ []) ≡ lexemes text before ++ lexeme_of text t ∷ []
with_token text before t = map-append (lexeme_of text) before (t ∷ [])

module _ {S : Type 0} (start : S) (step : S → Lexeme → Option S) where
  -- one more token that can come
  read_more : (ls : List Lexeme) (l : Lexeme) (read next : S) → run step start ls ≡ Some read
      → step read l ≡ Some next → run step start (ls ++ l ∷ []) ≡ Some next
  read_more ls l read next e one =
      run_then step start read ls (l ∷ []) _ e (run_cons step read next l [] _ one refl)

  -- one more token
  pub has_read_more : (text : List ℕ) (at : ℕ) (read next : S) (t : Token) → HasRead start step text at read
      → tokens_from at zero (drop at text) ≡ t ∷ tokens_from t.end zero (drop t.end text)
      → step read (lexeme_of text t) ≡ Some next → HasRead start step text t.end next
  has_read_more text at read next t h cut one = record {
    before = h.before ++ t ∷ [];
    cut = h.cut ∙ (ap (λ ts. h.before ++ ts) cut
        ∙ sym (append_assoc h.before (t ∷ []) (tokens_from t.end zero (drop t.end text))));
    runs = ap (run step start) (with_token text h.before t)
        ∙ read_more (lexemes text h.before) (lexeme_of text t) read next h.runs one;
  }

  -- all tokens
  has_read_whole : (text : List ℕ) (at : ℕ) (read : S) → HasRead start step text at read
      → tokens_from at zero (drop at text) ≡ [] → run step start (lexemes_of text) ≡ Some read
  has_read_whole text at read h none =
      ap (λ ts. run step start (lexemes text ts)) (h.cut ∙ (ap (λ ts. h.before ++ ts) none ∙ append-nil h.before))
      ∙ h.runs

module _ {S A : Type 0} {start : S} {step : S → Lexeme → Option S} {ended : S → Option A} {Means : List Lexeme → A → Type 0} (reads : Reads start step ended Means) where
  -- one more token that can't come begins no text of the grammar
  read_stops : (ls : List Lexeme) (l : Lexeme) (read : S) → run step start ls ≡ Some read
      → step read l ≡ None → IsViable Means (ls ++ l ∷ []) → ⊥
  read_stops ls l read e none v =
      let found = reads.accepts ((ls ++ l ∷ []) ++ v.0) v.1 v.2 in
      let dead : run step start ((ls ++ l ∷ []) ++ v.0) ≡ None =
      ap (run step start) (append_assoc ls (l ∷ []) v.0)
      ∙ run_then step start read ls (l ∷ v.0) _ e (ap (λ s. option_and_then (λ n. run step n v.0) s) none) in
      let live : run step start ((ls ++ l ∷ []) ++ v.0) ≡ Some found.0 = found.1 in
      let no : None ≡ Some found.0 = sym dead ∙ live in
      cc

  -- tokens that don't end a text of the grammar are none
  read_is_none : (ls : List Lexeme) (read : S) → run step start ls ≡ Some read → ended read ≡ None
      → (x : A) → Means ls x → ⊥
  read_is_none ls read e none x d =
      let found = reads.accepts ls x d in
      let live : run step start ls ≡ Some found.0 = found.1 in
      let ends : ended found.0 ≡ Some x = found.2 in
      cc

  -- a text means one thing at most
  pub means_one : (ls : List Lexeme) (x y : A) → Means ls x → Means ls y → x ≡ y
  means_one ls x y d e =
      let one = reads.accepts ls x d in
      let other = reads.accepts ls y e in
      let first : run step start ls ≡ Some one.0 = one.1 in
      let second : run step start ls ≡ Some other.0 = other.1 in
      let ends : ended one.0 ≡ Some x = one.2 in
      let too : ended other.0 ≡ Some y = other.2 in
      cc

  -- a token that can't come
  pub has_read_stops : (text : List ℕ) (at : ℕ) (read : S) (t : Token) → HasRead start step text at read
      → tokens_from at zero (drop at text) ≡ t ∷ tokens_from t.end zero (drop t.end text)
      → step read (lexeme_of text t) ≡ None → StopsAt Means text t.at
  has_read_stops text at read t h cut none = record {
    before = h.before;
    token = t;
    after = tokens_from t.end zero (drop t.end text);
    cut = h.cut ∙ ap (λ ts. h.before ++ ts) cut;
    begins = reads.viable (lexemes text h.before) read h.runs;
    stops = λ v. read_stops (lexemes text h.before) (lexeme_of text t) read h.runs none
        (subst (IsViable Means) (with_token text h.before t) v);
    place = refl;
  }

  -- all tokens, which end a text of the grammar
  pub has_read_all : (text : List ℕ) (at : ℕ) (read : S) (x : A) → HasRead start step text at read
      → tokens_from at zero (drop at text) ≡ [] → ended read ≡ Some x → Means (lexemes_of text) x
  has_read_all text at read x h none is =
      reads.spells (lexemes_of text) read x (has_read_whole start step text at read h none) is

  -- all tokens, behind which more have to come
  pub has_read_early : (text : List ℕ) (at : ℕ) (read : S) → HasRead start step text at read
      → tokens_from at zero (drop at text) ≡ [] → ended read ≡ None → EndsEarly Means text (length text)
  has_read_early text at read h none is =
      let runs = has_read_whole start step text at read h none in
      record {
        begins = reads.viable (lexemes_of text) read runs;
        none = read_is_none (lexemes_of text) read runs is;
        place = refl;
      }
