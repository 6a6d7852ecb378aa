-- What stands in an instance is read as the grammar has it: one body, or several between parentheses.
use Rattle.std.proofs.Common.{◌≡◌, ℕ, List, [], ◌∷◌, ◌++◌, Some, None, Result, Ok, Err, refl, sym, ap, ◌∙◌, ◌-◌}
use Rattle.p21_lexer.specs.declared.token.Token.{Token}
use Rattle.p21_lexer.specs.Cutting.{CutsFrom}
use Rattle.p21_values.specs.declared.limits.TheConstants.{MOST_DEPTH}
use Rattle.p21_values.specs.declared.fault.ReadFault.{ReadFault}
use Rattle.p21_values.specs.declared.piece.Kind.{Kind}
use Rattle.p21_values.specs.declared.piece.Kind.TheVariants as kinds
use Rattle.p21_values.specs.declared.value.Instance.{Instance}
use Rattle.p21_values.specs.Grammar.{Class, Open, Semi, Equals, Word, Sign, T, AnyWord, Body, Ones, Inside, Derives}
use Rattle.p21_reader.specs.Machine.{run, next}
use Rattle.p21_values.specs.Lexemes.{Lexeme, lexeme_of, class_of, Opening, Closing, Ending, Assigning, ReferenceTo}
use Rattle.p21_reader.specs.inner.TokenReading.{Goes, Fails, classes}
use Rattle.p21_values.specs.TokenPieces.{kind_of}
use Rattle.p21_reader.specs.Instances.{Passes, SpellsBody, SpellsInstance}
use Rattle.p21_reader.proofs.Viable.{sound}
use Rattle.p21_reader.proofs.Steps.{goes_one, goes_trans, goes_under, fails_after, fails_under}

-- an opening parenthesis, and values
pub opens_goes : (d : ℕ) (bytes : List ℕ) (at opened end : ℕ) (ls : List Lexeme) → Goes (T Open ∷ []) [] bytes at opened (Opening ∷ []) → Goes (Inside (Some d) ∷ []) [] bytes opened end ls
    → Goes (T Open ∷ Inside (Some d) ∷ []) [] bytes at end (Opening ∷ ls)
opens_goes d bytes at opened end ls h k =
    goes_trans (T Open ∷ Inside (Some d) ∷ []) (Inside (Some d) ∷ []) [] bytes at opened end (Opening ∷ []) ls (goes_under (T Open ∷ []) [] (Inside (Some d) ∷ []) bytes at opened (Opening ∷ []) h) k

pub opens_fails : (d : ℕ) (bytes : List ℕ) (at opened : ℕ) (f : ReadFault) → Goes (T Open ∷ []) [] bytes at opened (Opening ∷ []) → Fails (Inside (Some d) ∷ []) bytes opened f → Fails (T Open ∷ Inside (Some d) ∷ []) bytes at f
opens_fails d bytes at opened f h k =
    fails_after (T Open ∷ Inside (Some d) ∷ []) (Inside (Some d) ∷ []) bytes at opened (Opening ∷ []) f (goes_under (T Open ∷ []) [] (Inside (Some d) ∷ []) bytes at opened (Opening ∷ []) h) k

-- Complex instances.

-- so many keywords are passed over
pub record Round (bytes : List ℕ) (from at : ℕ) : Type 0 where
  pub said : List Lexeme
  pub goes : Goes (Ones ∷ []) (Ones ∷ []) bytes from at said

class_ones_word : (c : Class) → kind_of c ≡ kinds.Word → next Ones c ≡ Some (T Open ∷ Inside (Some (MOST_DEPTH - 2)) ∷ Ones ∷ [])
class_ones_word (Word m) h = refl
class_ones_word c h = cc

class_any : (c : Class) → kind_of c ≡ kinds.Word → next AnyWord c ≡ Some []
class_any (Word m) h = refl
class_any c h = cc

class_any_no : (c : Class) → (kind_of c ≡ kinds.Word → ⊥) → next AnyWord c ≡ None
class_any_no (Word m) h = absurd (h refl)
class_any_no c h = refl

class_body_open : (c : Class) → kind_of c ≡ kinds.Open → next Body c ≡ Some (AnyWord ∷ T Open ∷ Inside (Some (MOST_DEPTH - 2)) ∷ Ones ∷ [])
class_body_open Open h = refl
class_body_open c h = cc

pub ones_word : (l : Lexeme) → kinds.Word ≡ kind_of (class_of l) → next Ones (class_of l) ≡ Some (T Open ∷ Inside (Some (MOST_DEPTH - 2)) ∷ Ones ∷ [])
ones_word l h = class_ones_word (class_of l) (sym h)

pub any_word : (l : Lexeme) → kinds.Word ≡ kind_of (class_of l) → next AnyWord (class_of l) ≡ Some []
any_word l h = class_any (class_of l) (sym h)

pub any_no : (l : Lexeme) (k : Kind) → k ≡ kind_of (class_of l) → (k ≡ kinds.Word → ⊥) → next AnyWord (class_of l) ≡ None
any_no l k e a = class_any_no (class_of l) (λ h. a (e ∙ h))

pub body_open : (l : Lexeme) → kinds.Open ≡ kind_of (class_of l) → next Body (class_of l) ≡ Some (AnyWord ∷ T Open ∷ Inside (Some (MOST_DEPTH - 2)) ∷ Ones ∷ [])
body_open l h = class_body_open (class_of l) (sym h)

pub round_close : (bytes : List ℕ) (from at : ℕ) (t : Token) → Round bytes from at → CutsFrom bytes at (Ok (Some t)) → lexeme_of bytes t ≡ Closing → Passes (Ones ∷ []) bytes from (Ok t.end)
round_close bytes from at t r h l =
    (r.said ++ lexeme_of bytes t ∷ [], goes_trans (Ones ∷ []) (Ones ∷ []) [] bytes from at t.end r.said (lexeme_of bytes t ∷ []) r.goes (goes_one Ones [] bytes at t h (rw l refl)))

pub round_fails : (bytes : List ℕ) (from at : ℕ) (f : ReadFault) → Round bytes from at → Fails (Ones ∷ []) bytes at f → Fails (Ones ∷ []) bytes from f
round_fails bytes from at f r k = fails_after (Ones ∷ []) (Ones ∷ []) bytes from at r.said f r.goes k

pub round_step : (bytes : List ℕ) (from at end : ℕ) (t : Token) → Round bytes from at → CutsFrom bytes at (Ok (Some t)) → next Ones (class_of (lexeme_of bytes t)) ≡ Some (T Open ∷ Inside (Some (MOST_DEPTH - 2)) ∷ Ones ∷ [])
    → Passes (T Open ∷ Inside (Some (MOST_DEPTH - 2)) ∷ []) bytes t.end (Ok end) → Round bytes from end
round_step bytes from at end t r h n p =
    let one = goes_one Ones (T Open ∷ Inside (Some (MOST_DEPTH - 2)) ∷ Ones ∷ []) bytes at t h n in
    let two = goes_under (T Open ∷ Inside (Some (MOST_DEPTH - 2)) ∷ []) [] (Ones ∷ []) bytes t.end end p.0 p.1 in
    let both = goes_trans (Ones ∷ []) (T Open ∷ Inside (Some (MOST_DEPTH - 2)) ∷ Ones ∷ []) (Ones ∷ []) bytes at t.end end (lexeme_of bytes t ∷ []) p.0 one two in
    record { said = r.said ++ lexeme_of bytes t ∷ p.0; goes = goes_trans (Ones ∷ []) (Ones ∷ []) (Ones ∷ []) bytes from at end r.said (lexeme_of bytes t ∷ p.0) r.goes both }

pub round_one : (bytes : List ℕ) (at : ℕ) (t : Token) (f : ReadFault) → CutsFrom bytes at (Ok (Some t)) → next Ones (class_of (lexeme_of bytes t)) ≡ Some (T Open ∷ Inside (Some (MOST_DEPTH - 2)) ∷ Ones ∷ [])
    → Passes (T Open ∷ Inside (Some (MOST_DEPTH - 2)) ∷ []) bytes t.end (Err f) → Fails (Ones ∷ []) bytes at f
round_one bytes at t f h n p =
    fails_after (Ones ∷ []) (T Open ∷ Inside (Some (MOST_DEPTH - 2)) ∷ Ones ∷ []) bytes at t.end (lexeme_of bytes t ∷ []) f (goes_one Ones (T Open ∷ Inside (Some (MOST_DEPTH - 2)) ∷ Ones ∷ []) bytes at t h n)
    (fails_under (T Open ∷ Inside (Some (MOST_DEPTH - 2)) ∷ []) (Ones ∷ []) bytes t.end f p)

any_goes : (bytes : List ℕ) (at : ℕ) (t : Token) → CutsFrom bytes at (Ok (Some t)) → next AnyWord (class_of (lexeme_of bytes t)) ≡ Some []
    → Goes (AnyWord ∷ T Open ∷ Inside (Some (MOST_DEPTH - 2)) ∷ Ones ∷ []) (T Open ∷ Inside (Some (MOST_DEPTH - 2)) ∷ Ones ∷ []) bytes at t.end (lexeme_of bytes t ∷ [])
any_goes bytes at t h n = goes_under (AnyWord ∷ []) [] (T Open ∷ Inside (Some (MOST_DEPTH - 2)) ∷ Ones ∷ []) bytes at t.end (lexeme_of bytes t ∷ []) (goes_one AnyWord [] bytes at t h n)

first_goes : (bytes : List ℕ) (at mid : ℕ) (t : Token) (p : Passes (T Open ∷ Inside (Some (MOST_DEPTH - 2)) ∷ []) bytes t.end (Ok mid)) → CutsFrom bytes at (Ok (Some t)) → next AnyWord (class_of (lexeme_of bytes t)) ≡ Some []
    → Goes (AnyWord ∷ T Open ∷ Inside (Some (MOST_DEPTH - 2)) ∷ Ones ∷ []) (Ones ∷ []) bytes at mid (lexeme_of bytes t ∷ p.0)
first_goes bytes at mid t p h n =
    goes_trans (AnyWord ∷ T Open ∷ Inside (Some (MOST_DEPTH - 2)) ∷ Ones ∷ []) (T Open ∷ Inside (Some (MOST_DEPTH - 2)) ∷ Ones ∷ []) (Ones ∷ []) bytes at t.end mid (lexeme_of bytes t ∷ []) p.0 (any_goes bytes at t h n)
    (goes_under (T Open ∷ Inside (Some (MOST_DEPTH - 2)) ∷ []) [] (Ones ∷ []) bytes t.end mid p.0 p.1)

pub complex_one : (bytes : List ℕ) (at : ℕ) (t : Token) (f : ReadFault) → CutsFrom bytes at (Ok (Some t)) → next AnyWord (class_of (lexeme_of bytes t)) ≡ Some []
    → Passes (T Open ∷ Inside (Some (MOST_DEPTH - 2)) ∷ []) bytes t.end (Err f) → Fails (AnyWord ∷ T Open ∷ Inside (Some (MOST_DEPTH - 2)) ∷ Ones ∷ []) bytes at f
complex_one bytes at t f h n p =
    fails_after (AnyWord ∷ T Open ∷ Inside (Some (MOST_DEPTH - 2)) ∷ Ones ∷ []) (T Open ∷ Inside (Some (MOST_DEPTH - 2)) ∷ Ones ∷ []) bytes at t.end (lexeme_of bytes t ∷ []) f (any_goes bytes at t h n)
    (fails_under (T Open ∷ Inside (Some (MOST_DEPTH - 2)) ∷ []) (Ones ∷ []) bytes t.end f p)

pub complex_passes : (bytes : List ℕ) (at mid : ℕ) (t : Token) (r : Result ℕ ReadFault) → CutsFrom bytes at (Ok (Some t)) → next AnyWord (class_of (lexeme_of bytes t)) ≡ Some []
    → Passes (T Open ∷ Inside (Some (MOST_DEPTH - 2)) ∷ []) bytes t.end (Ok mid) → Passes (Ones ∷ []) bytes mid r → Passes (AnyWord ∷ T Open ∷ Inside (Some (MOST_DEPTH - 2)) ∷ Ones ∷ []) bytes at r
complex_passes bytes at mid t (Ok end) h n p q =
    ((lexeme_of bytes t ∷ p.0) ++ q.0, goes_trans (AnyWord ∷ T Open ∷ Inside (Some (MOST_DEPTH - 2)) ∷ Ones ∷ []) (Ones ∷ []) [] bytes at mid end (lexeme_of bytes t ∷ p.0) q.0 (first_goes bytes at mid t p h n) q.1)
complex_passes bytes at mid t (Err f) h n p q =
    fails_after (AnyWord ∷ T Open ∷ Inside (Some (MOST_DEPTH - 2)) ∷ Ones ∷ []) (Ones ∷ []) bytes at mid (lexeme_of bytes t ∷ p.0) f (first_goes bytes at mid t p h n) q

-- What stands between the equals sign and the semicolon.

pub body_derives : (l : Lexeme) (σ : List Sign) (ls : List Lexeme) → next Body (class_of l) ≡ Some σ → run (σ ++ []) (classes ls) ≡ Some [] → Derives (Body ∷ []) (classes (l ∷ ls))
body_derives l σ ls n h = sound (Body ∷ []) (classes (l ∷ ls)) (rw n h)

-- A whole instance.

pub instance_first : (bytes : List ℕ) (at opened : ℕ) (f : ReadFault) → Goes (T Equals ∷ []) [] bytes at opened (Assigning ∷ []) → Fails (Body ∷ []) bytes opened f → Fails (T Equals ∷ Body ∷ T Semi ∷ []) bytes at f
instance_first bytes at opened f h k =
    fails_after (T Equals ∷ Body ∷ T Semi ∷ []) (Body ∷ T Semi ∷ []) bytes at opened (Assigning ∷ []) f (goes_under (T Equals ∷ []) [] (Body ∷ T Semi ∷ []) bytes at opened (Assigning ∷ []) h)
    (fails_under (Body ∷ []) (T Semi ∷ []) bytes opened f k)

-- what stands between the equals sign and the semicolon, whose first token is given, and leads on like that
body_goes : (bytes : List ℕ) (opened end : ℕ) (t : Token) (σ : List Sign) (rest : List Lexeme) → next Body (class_of (lexeme_of bytes t)) ≡ Some σ → Goes σ [] bytes t.end end rest → CutsFrom bytes opened (Ok (Some t))
    → Goes (Body ∷ []) [] bytes opened end (lexeme_of bytes t ∷ rest)
body_goes bytes opened end t σ rest n g h = goes_trans (Body ∷ []) σ [] bytes opened t.end end (lexeme_of bytes t ∷ []) rest (goes_one Body σ bytes opened t h n) g

pub instance_end : (bytes : List ℕ) (at opened end : ℕ) (t : Token) (σ : List Sign) (rest : List Lexeme) (f : ReadFault) → Goes (T Equals ∷ []) [] bytes at opened (Assigning ∷ []) → CutsFrom bytes opened (Ok (Some t))
    → next Body (class_of (lexeme_of bytes t)) ≡ Some σ → Goes σ [] bytes t.end end rest → Fails (T Semi ∷ []) bytes end f → Fails (T Equals ∷ Body ∷ T Semi ∷ []) bytes at f
instance_end bytes at opened end t σ rest f h k n g x =
    fails_after (T Equals ∷ Body ∷ T Semi ∷ []) (Body ∷ T Semi ∷ []) bytes at opened (Assigning ∷ []) f (goes_under (T Equals ∷ []) [] (Body ∷ T Semi ∷ []) bytes at opened (Assigning ∷ []) h)
    (fails_after (Body ∷ T Semi ∷ []) (T Semi ∷ []) bytes opened end (lexeme_of bytes t ∷ rest) f
    (goes_under (Body ∷ []) [] (T Semi ∷ []) bytes opened end (lexeme_of bytes t ∷ rest) (body_goes bytes opened end t σ rest n g k)) x)

-- an instance stands behind its name
pub record Named (name : Lexeme) (bytes : List ℕ) (at end : ℕ) (i : Instance) : Type 0 where
  pub rest : List Lexeme
  pub spelled : SpellsInstance i (name ∷ rest)
  pub goes : Goes (T Equals ∷ Body ∷ T Semi ∷ []) [] bytes at end rest

pub instance_named : (bytes : List ℕ) (name : Lexeme) (at opened mid end : ℕ) (i : Instance) (t : Token) (σ : List Sign) (rest : List Lexeme) → ReferenceTo i.id ≡ name → Goes (T Equals ∷ []) [] bytes at opened (Assigning ∷ [])
    → CutsFrom bytes opened (Ok (Some t)) → next Body (class_of (lexeme_of bytes t)) ≡ Some σ → SpellsBody i.keyword i.values (lexeme_of bytes t ∷ rest) → Goes σ [] bytes t.end mid rest → Goes (T Semi ∷ []) [] bytes mid end (Ending ∷ [])
    → Named name bytes at end i
instance_named bytes name at opened mid end i t σ rest e h k n b g x = record {
  rest = Assigning ∷ ((lexeme_of bytes t ∷ rest) ++ Ending ∷ []);
  spelled = record { body = lexeme_of bytes t ∷ rest; whole = ap (λ l. l ∷ Assigning ∷ ((lexeme_of bytes t ∷ rest) ++ Ending ∷ [])) (sym e); is_body = b };
  goes =
      goes_trans (T Equals ∷ Body ∷ T Semi ∷ []) (Body ∷ T Semi ∷ []) [] bytes at opened end (Assigning ∷ []) ((lexeme_of bytes t ∷ rest) ++ Ending ∷ [])
      (goes_under (T Equals ∷ []) [] (Body ∷ T Semi ∷ []) bytes at opened (Assigning ∷ []) h)
      (goes_trans (Body ∷ T Semi ∷ []) (T Semi ∷ []) [] bytes opened mid end (lexeme_of bytes t ∷ rest) (Ending ∷ [])
      (goes_under (Body ∷ []) [] (T Semi ∷ []) bytes opened mid (lexeme_of bytes t ∷ rest) (body_goes bytes opened mid t σ rest n g k)) x);
}
