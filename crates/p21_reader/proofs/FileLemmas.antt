-- A file is read instance by instance, up to its last semicolon.
use Rattle.std.proofs.Common.{◌≡◌, ℕ, inl, inr, List, [], ◌∷◌, ◌++◌, Option, Some, None, Result, Ok, Err, refl, sym, ap, subst, ◌∙◌, append_assoc}
use Rattle.std.specs.Prelude.{IsSome}
use Rattle.p21_lexer.specs.declared.token.Token.{Token}
use Rattle.p21_lexer.specs.Cutting.{CutsFrom, start_of}
use Rattle.p21_values.specs.declared.fault.ReadFault.{ReadFault}
use Rattle.p21_values.specs.declared.fault.ReadFault.TheVariants as faults
use Rattle.p21_values.specs.declared.piece.Kind.TheVariants as kinds
use Rattle.p21_values.specs.declared.value.Instance.{Instance}
use Rattle.p21_values.specs.Grammar.{Class, Name, Semi, Equals, Word, EndSec, EndIso, Sign, T, Body, Statements, Iso, Header, Instances, IsViable, file}
use Rattle.p21_reader.specs.Machine.{run, next, bind}
use Rattle.p21_values.specs.Lexemes.{Lexeme, lexeme_of, class_of, Ending}
use Rattle.p21_reader.specs.inner.TokenReading.{Cuts, classes, Goes, Fails, Expects}
use Rattle.p21_values.specs.TokenPieces.{kind_of}
use Rattle.p21_reader.specs.inner.Heading.{ReadsHeader}
use Rattle.p21_reader.specs.declared.header.Head.{Head}
use Rattle.p21_reader.specs.Uploads.{BeginsAt, Judges}
use Rattle.p21_reader.specs.Instances.{SpellsInstance, SpellsAll}
use Rattle.p21_reader.specs.ExchangeFiles.{Reaches, FaultAt, ReadsClosing, ReadsWord, ReadsSection}
use Rattle.p21_reader.proofs.Viable.{run_append, sound, viable_iff, file_iff}
use Rattle.p21_values.proofs.Tokens.{one_token}
use Rattle.p21_reader.proofs.Bodies.{Named}
use Rattle.p21_reader.proofs.Steps.{classes_append, goes_one, goes_trans, goes_under, fails_after, fails_under, after_fails, fails_past}

-- Instances one after another.

pub spells_more : (is : List Instance) (i : Instance) (ls ms : List Lexeme) → SpellsAll is ls → SpellsInstance i ms → SpellsAll (is ++ i ∷ []) (ls ++ ms)
spells_more [] i ls ms h k = (ms, [], k, ap (λ x. x ++ ms) h ∙ sym (nil ms), refl)
  where
    nil : (xs : List Lexeme) → xs ++ [] ≡ xs
    nil [] = refl
    nil (x ∷ xs) = ap (λ y. x ∷ y) (nil xs)
spells_more (j ∷ is) i ls ms h k = (h.0, h.1 ++ ms, h.2, ap (λ x. x ++ ms) h.3 ∙ append_assoc h.0 h.1 ms, spells_more is i h.1 ms h.4 k)

-- so many instances are read
pub record Many (bytes : List ℕ) (from at : ℕ) (found : List Instance) : Type 0 where
  pub said : List Lexeme
  pub spelled : SpellsAll found said
  pub goes : Goes (Instances ∷ []) (Instances ∷ []) bytes from at said

class_name : (c : Class) → kind_of c ≡ kinds.Name → next Instances c ≡ Some (T Equals ∷ Body ∷ T Semi ∷ Instances ∷ [])
class_name Name h = refl
class_name c h = cc

pub instances_name : (l : Lexeme) → kinds.Name ≡ kind_of (class_of l) → next Instances (class_of l) ≡ Some (T Equals ∷ Body ∷ T Semi ∷ Instances ∷ [])
instances_name l h = class_name (class_of l) (sym h)

pub many_step : (bytes : List ℕ) (from at end : ℕ) (t : Token) (found : List Instance) (i : Instance) → Many bytes from at found → CutsFrom bytes at (Ok (Some t)) → next Instances (class_of (lexeme_of bytes t)) ≡ Some (T Equals ∷ Body ∷ T Semi ∷ Instances ∷ [])
    → Named (lexeme_of bytes t) bytes t.end end i → Many bytes from end (found ++ i ∷ [])
many_step bytes from at end t found i m h n d =
    let one = goes_one Instances (T Equals ∷ Body ∷ T Semi ∷ Instances ∷ []) bytes at t h n in
    let two = goes_under (T Equals ∷ Body ∷ T Semi ∷ []) [] (Instances ∷ []) bytes t.end end d.rest d.goes in
    let both = goes_trans (Instances ∷ []) (T Equals ∷ Body ∷ T Semi ∷ Instances ∷ []) (Instances ∷ []) bytes at t.end end (lexeme_of bytes t ∷ []) d.rest one two in
    record {
      said = m.said ++ lexeme_of bytes t ∷ d.rest;
      spelled = spells_more found i m.said (lexeme_of bytes t ∷ d.rest) m.spelled d.spelled;
      goes = goes_trans (Instances ∷ []) (Instances ∷ []) (Instances ∷ []) bytes from at end m.said (lexeme_of bytes t ∷ d.rest) m.goes both;
    }

pub many_fails : (bytes : List ℕ) (from at : ℕ) (found : List Instance) (f : ReadFault) → Many bytes from at found → Fails (Instances ∷ []) bytes at f → Fails (Instances ∷ []) bytes from f
many_fails bytes from at found f m k = fails_after (Instances ∷ []) (Instances ∷ []) bytes from at m.said f m.goes k

pub many_instance : (bytes : List ℕ) (at : ℕ) (t : Token) (f : ReadFault) → CutsFrom bytes at (Ok (Some t)) → next Instances (class_of (lexeme_of bytes t)) ≡ Some (T Equals ∷ Body ∷ T Semi ∷ Instances ∷ [])
    → Fails (T Equals ∷ Body ∷ T Semi ∷ []) bytes t.end f → Fails (Instances ∷ []) bytes at f
many_instance bytes at t f h n k =
    fails_after (Instances ∷ []) (T Equals ∷ Body ∷ T Semi ∷ Instances ∷ []) bytes at t.end (lexeme_of bytes t ∷ []) f (goes_one Instances (T Equals ∷ Body ∷ T Semi ∷ Instances ∷ []) bytes at t h n)
    (fails_under (T Equals ∷ Body ∷ T Semi ∷ []) (Instances ∷ []) bytes t.end f k)

head_same : (c d : Class) (cs ds : List Class) → c ∷ cs ≡ d ∷ ds → c ≡ d
head_same c d cs ds e = cc

pub many_closed : (bytes : List ℕ) (from at : ℕ) (t : Token) (found : List Instance) (r : Result ℕ ReadFault) → Many bytes from at found → CutsFrom bytes at (Ok (Some t)) → ReadsClosing bytes t r → ReadsSection bytes from found r
many_closed bytes from at t found (Ok end) m h c =
    let n : next Instances (class_of (lexeme_of bytes t)) ≡ Some (T Semi ∷ T (Word EndIso) ∷ T Semi ∷ []) = ap (λ x. next Instances x) (head_same (class_of (lexeme_of bytes t)) (Word EndSec) (classes c.0) (Semi ∷ Word EndIso ∷ Semi ∷ []) c.1) in
    let both = goes_trans (Instances ∷ []) (T Semi ∷ T (Word EndIso) ∷ T Semi ∷ []) [] bytes at t.end end (lexeme_of bytes t ∷ []) c.0 (goes_one Instances (T Semi ∷ T (Word EndIso) ∷ T Semi ∷ []) bytes at t h n) c.2 in
    (m.said, lexeme_of bytes t ∷ c.0, m.spelled, c.1, goes_trans (Instances ∷ []) (Instances ∷ []) [] bytes from at end m.said (lexeme_of bytes t ∷ c.0) m.goes both)
many_closed bytes from at t found (Err f) m h c = many_fails bytes from at found f m (after_fails Instances [] bytes at t f h c)

-- The end.

pub instances_end : (l : Lexeme) → class_of l ≡ Word EndSec → next Instances (class_of l) ≡ Some (T Semi ∷ T (Word EndIso) ∷ T Semi ∷ [])
instances_end l e = ap (λ x. next Instances x) e

pub closing_last : (bytes : List ℕ) (at mid : ℕ) (f : ReadFault) → Goes (T Semi ∷ []) [] bytes at mid (Ending ∷ []) → Fails (T (Word EndIso) ∷ T Semi ∷ []) bytes mid f → Fails (T Semi ∷ T (Word EndIso) ∷ T Semi ∷ []) bytes at f
closing_last bytes at mid f h k =
    fails_after (T Semi ∷ T (Word EndIso) ∷ T Semi ∷ []) (T (Word EndIso) ∷ T Semi ∷ []) bytes at mid (Ending ∷ []) f (goes_under (T Semi ∷ []) [] (T (Word EndIso) ∷ T Semi ∷ []) bytes at mid (Ending ∷ []) h) k

pub closing_made : (bytes : List ℕ) (mid last : ℕ) (t : Token) (r : Result ℕ ReadFault) → class_of (lexeme_of bytes t) ≡ Word EndSec → Goes (T Semi ∷ []) [] bytes t.end mid (Ending ∷ []) → ReadsWord EndIso bytes mid (Ok last)
    → Expects kinds.Semicolon bytes last r → ReadsClosing bytes t r
closing_made bytes mid last t (Ok end) e h k x =
    let two = goes_trans (T (Word EndIso) ∷ T Semi ∷ []) (T Semi ∷ []) [] bytes mid last end (k.0 ∷ []) (Ending ∷ []) (goes_under (T (Word EndIso) ∷ []) [] (T Semi ∷ []) bytes mid last (k.0 ∷ []) k.2) x in (
      Ending ∷ k.0 ∷ Ending ∷ [],
      ap (λ y. y ∷ Semi ∷ class_of k.0 ∷ Semi ∷ []) e ∙ ap (λ y. Word EndSec ∷ Semi ∷ y ∷ Semi ∷ []) k.1,
      goes_trans (T Semi ∷ T (Word EndIso) ∷ T Semi ∷ []) (T (Word EndIso) ∷ T Semi ∷ []) [] bytes t.end mid end (Ending ∷ []) (k.0 ∷ Ending ∷ []) (goes_under (T Semi ∷ []) [] (T (Word EndIso) ∷ T Semi ∷ []) bytes t.end mid (Ending ∷ []) h) two,
    )
closing_made bytes mid last t (Err f) e h k x =
    fails_past Instances (T Semi ∷ T (Word EndIso) ∷ T Semi ∷ []) bytes t f (instances_end (lexeme_of bytes t) e)
    (closing_last bytes t.end mid f h (fails_after (T (Word EndIso) ∷ T Semi ∷ []) (T Semi ∷ []) bytes mid last (k.0 ∷ []) f (goes_under (T (Word EndIso) ∷ []) [] (T Semi ∷ []) bytes mid last (k.0 ∷ []) k.2) x))

pub closing_semi : (bytes : List ℕ) (t : Token) (f : ReadFault) → class_of (lexeme_of bytes t) ≡ Word EndSec → Fails (T Semi ∷ []) bytes t.end f → ReadsClosing bytes t (Err f)
closing_semi bytes t f e k = fails_past Instances (T Semi ∷ T (Word EndIso) ∷ T Semi ∷ []) bytes t f (instances_end (lexeme_of bytes t) e) (fails_under (T Semi ∷ []) (T (Word EndIso) ∷ T Semi ∷ []) bytes t.end f k)

pub closing_word : (bytes : List ℕ) (mid : ℕ) (t : Token) (f : ReadFault) → class_of (lexeme_of bytes t) ≡ Word EndSec → Goes (T Semi ∷ []) [] bytes t.end mid (Ending ∷ []) → Fails (T (Word EndIso) ∷ []) bytes mid f → ReadsClosing bytes t (Err f)
closing_word bytes mid t f e h k =
    fails_past Instances (T Semi ∷ T (Word EndIso) ∷ T Semi ∷ []) bytes t f (instances_end (lexeme_of bytes t) e) (closing_last bytes t.end mid f h (fails_under (T (Word EndIso) ∷ []) (T Semi ∷ []) bytes mid f k))

-- A whole file.

abbrev begins : List Sign
begins = T (Word Iso) ∷ T Semi ∷ []

-- after the first two tokens
abbrev begun : List Sign
begun = T (Word Header) ∷ T Semi ∷ Statements ∷ []

begun_goes : (bytes : List ℕ) (at : ℕ) (b : BeginsAt bytes at) → Goes file (T (Word Header) ∷ T Semi ∷ Statements ∷ Instances ∷ []) bytes (start_of bytes) at b.0
begun_goes bytes at b = goes_under begins [] (T (Word Header) ∷ T Semi ∷ Statements ∷ Instances ∷ []) bytes (start_of bytes) at b.0 b.2

pub file_fails : (bytes : List ℕ) (at : ℕ) (f : ReadFault) → BeginsAt bytes at → ReadsHeader bytes at (Err f) → Fails file bytes (start_of bytes) f
file_fails bytes at f b k =
    fails_after file (T (Word Header) ∷ T Semi ∷ Statements ∷ Instances ∷ []) bytes (start_of bytes) at b.0 f (begun_goes bytes at b) (fails_under begun (Instances ∷ []) bytes at f k)

header_goes : (bytes : List ℕ) (at : ℕ) (head : Head) (b : BeginsAt bytes at) (h : ReadsHeader bytes at (Ok head)) → Goes file (Instances ∷ []) bytes (start_of bytes) head.end (b.0 ++ (h.1 ++ (h.2 ++ h.3)))
header_goes bytes at head b h =
    goes_trans file (T (Word Header) ∷ T Semi ∷ Statements ∷ Instances ∷ []) (Instances ∷ []) bytes (start_of bytes) at head.end b.0 (h.1 ++ (h.2 ++ h.3)) (begun_goes bytes at b)
    (goes_under begun [] (Instances ∷ []) bytes at head.end (h.1 ++ (h.2 ++ h.3)) h.7)

pub file_section : (bytes : List ℕ) (at : ℕ) (head : Head) (f : ReadFault) → BeginsAt bytes at → ReadsHeader bytes at (Ok head) → Fails (Instances ∷ []) bytes head.end f → Fails file bytes (start_of bytes) f
file_section bytes at head f b h k = fails_after file (Instances ∷ []) bytes (start_of bytes) head.end (b.0 ++ (h.1 ++ (h.2 ++ h.3))) f (header_goes bytes at head b h) k

pub file_holds : (bytes : List ℕ) (at end : ℕ) (head : Head) (found : List Instance) → BeginsAt bytes at → ReadsHeader bytes at (Ok head) → ReadsSection bytes head.end found (Ok end) → Judges bytes found head.is_ifc4
file_holds bytes at end head found b h s =
    let heading : List Lexeme = b.0 ++ (h.1 ++ (h.2 ++ h.3)) in
    let g = goes_trans file (Instances ∷ []) [] bytes (start_of bytes) head.end end heading (s.0 ++ s.1) (header_goes bytes at head b h) s.4 in (
      h.0,
      record {
        said = heading ++ (s.0 ++ s.1);
        end = end;
        cuts = g.cuts;
        spells = record {
          heading = heading;
          data_section = s.0;
          closing = s.1;
          whole = refl;
          is_file = sound file (classes (heading ++ (s.0 ++ s.1))) (g.leads []);
          headed = record {
            opening = b.0 ++ h.1;
            middle = h.2;
            closing = h.3;
            whole = sym (append_assoc b.0 h.1 (h.2 ++ h.3));
            is_opening = classes_append b.0 h.1 ∙ ap (λ x. x ++ classes h.1) b.1 ∙ ap (λ x. (Word Iso ∷ Semi ∷ []) ++ x) h.4;
            spelled = h.5;
            is_closing = h.6;
          };
          spelled = s.2;
          is_closing = s.3;
        };
      },
      h.8,
    )

some : {A : Type 0} (o : Option A) (x : A) → o ≡ Some x → IsSome o
some o x h = rw h refl

none_some : {A : Type 0} (o : Option A) → o ≡ None → IsSome o → ⊥
none_some o e h = let k = rw e at h in cc

reached : (bytes : List ℕ) (before : List Lexeme) (place : ℕ) (s : Sign) (σ : List Sign) → Goes file (s ∷ σ) bytes (start_of bytes) place before → Reaches bytes before place
reached bytes before place s σ g = record {
  cuts = g.cuts;
  viable = (viable_iff (classes before)).1 (some (run file (classes before)) (s ∷ (σ ++ [])) (g.leads []));
  none = λ h. (let e = (file_iff (classes before)).0 h in let k : Some [] ≡ Some (s ∷ (σ ++ [])) = sym e ∙ g.leads [] in cc);
}

stuck_run : (bytes : List ℕ) (before : List Lexeme) (place : ℕ) (s : Sign) (σ : List Sign) (l : Lexeme) → Goes file (s ∷ σ) bytes (start_of bytes) place before → next s (class_of l) ≡ None
    → run file (classes (before ++ l ∷ [])) ≡ None
stuck_run bytes before place s σ l g n =
    ap (λ x. run file x) (classes_append before (l ∷ [])) ∙ run_append file (classes before) (class_of l ∷ []) ∙ ap (λ o. bind o (λ β. run β (class_of l ∷ []))) (g.leads []) ∙ rw n refl

stuck_none : (bytes : List ℕ) (before : List Lexeme) (place : ℕ) (s : Sign) (σ : List Sign) (l : Lexeme) → Goes file (s ∷ σ) bytes (start_of bytes) place before → next s (class_of l) ≡ None
    → IsViable (classes (before ++ l ∷ [])) → ⊥
stuck_none bytes before place s σ l g n v =
    none_some (run file (classes (before ++ l ∷ []))) (stuck_run bytes before place s σ l g n) ((viable_iff (classes (before ++ l ∷ []))).0 v)

pub fault_at : (bytes : List ℕ) (f : ReadFault) → Fails file bytes (start_of bytes) f → FaultAt bytes f
fault_at bytes (faults.BadToken p) k = (k.before, k.place, reached bytes k.before k.place k.sign k.later k.goes, k.stuck)
fault_at bytes (faults.BadStatement p) k = (
  k.before,
  k.place,
  reached bytes k.before k.place k.sign k.later k.goes,
  elim k.stuck [ inl e ↦ inl e | inr r ↦ inr (r.0, r.1, r.2, stuck_none bytes k.before k.place k.sign k.later (lexeme_of bytes r.0) k.goes r.3) ],
)
fault_at bytes faults.Memory k = tt

-- Tokens from one place.

-- of two lists of tokens from one place, one is a front of the other
pub data Fronts (bytes : List ℕ) (ls ms : List Lexeme) (mid : ℕ) : Type 0 where
  longer : (l : Lexeme) (rest : List Lexeme) → ms ≡ ls ++ l ∷ rest → (t : Token) → CutsFrom bytes mid (Ok (Some t)) → lexeme_of bytes t ≡ l → Fronts bytes ls ms mid
  shorter : (rest : List Lexeme) → ls ≡ ms ++ rest → Fronts bytes ls ms mid

fronts_step : (bytes : List ℕ) (l : Lexeme) (ls ms : List Lexeme) (mid : ℕ) → Fronts bytes ls ms mid → Fronts bytes (l ∷ ls) (l ∷ ms) mid
fronts_step bytes l ls ms mid (longer x rest e t h k) = longer x rest (ap (λ y. l ∷ y) e) t h k
fronts_step bytes l ls ms mid (shorter rest e) = shorter rest (ap (λ y. l ∷ y) e)

pub fronts : (bytes : List ℕ) (at mid end : ℕ) (ls ms : List Lexeme) → Cuts bytes at ls mid → Cuts bytes at ms end → Fronts bytes ls ms mid
fronts bytes at mid end ls [] h k = shorter ls refl
fronts bytes at mid end [] (m ∷ ms) h k = longer m ms refl k.0 (let P : ℕ → Type 0 = λ n. CutsFrom bytes n (Ok (Some k.0)) in subst P h k.1) k.2
fronts bytes at mid end (l ∷ ls) (m ∷ ms) h k =
    let e : h.0 ≡ k.0 = one_token bytes at h.0 k.0 h.1 k.1 in
    let same : l ≡ m = sym h.2 ∙ ap (λ (t : Token). lexeme_of bytes t) e ∙ k.2 in
    let rest : Cuts bytes h.0.end ms end = (let P : Token → Type 0 = λ t. Cuts bytes t.end ms end in subst P (sym e) k.3) in
    let f = fronts_step bytes l ls ms mid (fronts bytes h.0.end mid end ls ms h.3 rest) in
    let P : Lexeme → Type 0 = λ x. Fronts bytes (l ∷ ls) (x ∷ ms) mid in subst P same f
