-- Ways through the table of signs: joined, under more signs, and where they fail.
use Rattle.std.proofs.Common.{◌≡◌, ℕ, ◌-◌, ◌<◌, ◌≤◌, inl, inr, List, [], ◌∷◌, ◌++◌, length, drop, Some, None, Result, Ok, Err, arith, refl, sym, ap, subst, ◌∙◌, append_assoc, length-append, length-drop}
use Rattle.p21_lexer.specs.declared.token.Token.{Token}
use Rattle.p21_lexer.specs.Cutting.{CutsFrom, StopsAt, IsFirst}
use Rattle.p21_lexer.specs.TokenSeparators.{Passes}
use Rattle.p21_values.specs.declared.fault.ReadFault.{ReadFault}
use Rattle.p21_values.specs.declared.fault.ReadFault.TheVariants as faults
use Rattle.p21_values.specs.Grammar.{Sign, T}
use Rattle.p21_values.specs.declared.piece.Kind.{Kind}
use Rattle.std.specs.Prelude.{IsErrAnd}
use Rattle.p21_reader.proofs.Signs.{sign_said, sign_led}
use Rattle.p21_reader.specs.Machine.{run, next, bind}
use Rattle.p21_values.specs.Lexemes.{Lexeme, lexeme_of, class_of}
use Rattle.p21_reader.specs.inner.TokenReading.{Cuts, classes, Goes, Stops, Fails, StopsAfter, FailsAfter, sign_class, sign_says}
use Rattle.p21_values.specs.TokenPieces.{NoToken, IsSign, kind_of}
use Rattle.p21_reader.proofs.Viable.{run_append}

pub classes_append : (ls ms : List Lexeme) → classes (ls ++ ms) ≡ classes ls ++ classes ms
classes_append [] ms = refl
classes_append (l ∷ ls) ms = ap (λ x. class_of l ∷ x) (classes_append ls ms)

pub cuts_append : (bytes : List ℕ) (a b c : ℕ) (ls ms : List Lexeme) → Cuts bytes a ls b → Cuts bytes b ms c → Cuts bytes a (ls ++ ms) c
cuts_append bytes a b c [] ms h k = let P : ℕ → Type 0 = λ x. Cuts bytes x ms c in subst P (sym h) k
cuts_append bytes a b c (l ∷ ls) ms h k = (h.0, h.1, h.2, cuts_append bytes h.0.end b c ls ms h.3 k)

-- nothing is read
pub goes_here : (σ : List Sign) (bytes : List ℕ) (at : ℕ) → Goes σ σ bytes at at []
goes_here σ bytes at = record { cuts = refl; leads = λ α. refl }

-- one token
pub goes_one : (s : Sign) (σ : List Sign) (bytes : List ℕ) (at : ℕ) (t : Token) → CutsFrom bytes at (Ok (Some t)) → next s (class_of (lexeme_of bytes t)) ≡ Some σ → Goes (s ∷ []) σ bytes at t.end (lexeme_of bytes t ∷ [])
goes_one s σ bytes at t h n = record { cuts = (t, h, refl, refl); leads = λ α. rw n refl }

pub goes_trans : (σ τ ρ : List Sign) (bytes : List ℕ) (a b c : ℕ) (ls ms : List Lexeme) → Goes σ τ bytes a b ls → Goes τ ρ bytes b c ms → Goes σ ρ bytes a c (ls ++ ms)
goes_trans σ τ ρ bytes a b c ls ms h k = record {
  cuts = cuts_append bytes a b c ls ms h.cuts k.cuts;
  leads = λ α. ap (λ x. run (σ ++ α) x) (classes_append ls ms) ∙ run_append (σ ++ α) (classes ls) (classes ms)
      ∙ ap (λ o. bind o (λ β. run β (classes ms))) (h.leads α) ∙ k.leads α;
}

-- the same, with more wanted behind
pub goes_under : (σ τ ρ : List Sign) (bytes : List ℕ) (a b : ℕ) (ls : List Lexeme) → Goes σ τ bytes a b ls → Goes (σ ++ ρ) (τ ++ ρ) bytes a b ls
goes_under σ τ ρ bytes a b ls h = record {
  cuts = h.cuts;
  leads = λ α. ap (λ x. run x (classes ls)) (append_assoc σ ρ α) ∙ h.leads (ρ ++ α) ∙ ap (λ (x : List Sign). Some x) (sym (append_assoc τ ρ α));
}

pub stops_after : (σ τ : List Sign) (bytes : List ℕ) (a b : ℕ) (ls : List Lexeme) (f : ReadFault) → Goes σ τ bytes a b ls → Stops τ bytes b f → Stops σ bytes a f
stops_after σ τ bytes a b ls f h k = record {
  before = ls ++ k.before;
  place = k.place;
  sign = k.sign;
  later = k.later;
  goes = goes_trans σ τ (k.sign ∷ k.later) bytes a b k.place ls k.before h k.goes;
  stuck = k.stuck;
}

pub stops_under : (σ ρ : List Sign) (bytes : List ℕ) (a : ℕ) (f : ReadFault) → Stops σ bytes a f → Stops (σ ++ ρ) bytes a f
stops_under σ ρ bytes a f k = record {
  before = k.before;
  place = k.place;
  sign = k.sign;
  later = k.later ++ ρ;
  goes = goes_under σ (k.sign ∷ k.later) ρ bytes a k.place k.before k.goes;
  stuck = k.stuck;
}

pub fails_after : (σ τ : List Sign) (bytes : List ℕ) (a b : ℕ) (ls : List Lexeme) (f : ReadFault) → Goes σ τ bytes a b ls → Fails τ bytes b f → Fails σ bytes a f
fails_after σ τ bytes a b ls (faults.BadToken p) h k = stops_after σ τ bytes a b ls (faults.BadToken p) h k
fails_after σ τ bytes a b ls (faults.BadStatement p) h k = stops_after σ τ bytes a b ls (faults.BadStatement p) h k
fails_after σ τ bytes a b ls faults.Memory h k = tt

pub fails_under : (σ ρ : List Sign) (bytes : List ℕ) (a : ℕ) (f : ReadFault) → Fails σ bytes a f → Fails (σ ++ ρ) bytes a f
fails_under σ ρ bytes a (faults.BadToken p) k = stops_under σ ρ bytes a (faults.BadToken p) k
fails_under σ ρ bytes a (faults.BadStatement p) k = stops_under σ ρ bytes a (faults.BadStatement p) k
fails_under σ ρ bytes a faults.Memory k = tt

-- no token stands there
pub fails_none : (s : Sign) (σ : List Sign) (bytes : List ℕ) (at : ℕ) (f : ReadFault) → NoToken bytes at f → Fails (s ∷ σ) bytes at f
fails_none s σ bytes at (faults.BadToken p) h = record { before = []; place = at; sign = s; later = σ; goes = goes_here (s ∷ σ) bytes at; stuck = h }
fails_none s σ bytes at (faults.BadStatement p) h = record { before = []; place = at; sign = s; later = σ; goes = goes_here (s ∷ σ) bytes at; stuck = inl h }
fails_none s σ bytes at faults.Memory h = tt

-- a token stands there that can't
pub fails_refused : (s : Sign) (σ : List Sign) (bytes : List ℕ) (at p : ℕ) (t : Token) → CutsFrom bytes at (Ok (Some t)) → next s (class_of (lexeme_of bytes t)) ≡ None → p ≡ t.start → Fails (s ∷ σ) bytes at (faults.BadStatement p)
fails_refused s σ bytes at p t h n e = record { before = []; place = at; sign = s; later = σ; goes = goes_here (s ∷ σ) bytes at; stuck = inr (t, h, e, n) }

-- After a token that is given.

after_stops : (s : Sign) (σ : List Sign) (bytes : List ℕ) (at p : ℕ) (t : Token) (f : ReadFault) → CutsFrom bytes at (Ok (Some t)) → f ≡ faults.BadStatement p
    → StopsAfter s bytes t f → Stops (s ∷ σ) bytes at f
after_stops s σ bytes at p t f h e k = elim k [
  | inl r ↦ (let P : ReadFault → Type 0 = λ x. Stops (s ∷ σ) bytes at x in subst P (sym r.0) (fails_refused s σ bytes at t.start t h r.1 refl))
  | inr r ↦ stops_under (s ∷ []) σ bytes at f (stops_after (s ∷ []) r.0 bytes at t.end (lexeme_of bytes t ∷ []) f (goes_one s r.0 bytes at t h r.1) r.2)
]

bad_token : (s : Sign) (σ : List Sign) (bytes : List ℕ) (at p : ℕ) (t : Token) → CutsFrom bytes at (Ok (Some t)) → StopsAfter s bytes t (faults.BadToken p) → Stops (s ∷ σ) bytes at (faults.BadToken p)
bad_token s σ bytes at p t h k = elim k [
  | inl r ↦ absurd (let e = r.0 in cc)
  | inr r ↦ stops_under (s ∷ []) σ bytes at (faults.BadToken p) (stops_after (s ∷ []) r.0 bytes at t.end (lexeme_of bytes t ∷ []) (faults.BadToken p) (goes_one s r.0 bytes at t h r.1) r.2)
]

pub after_fails : (s : Sign) (σ : List Sign) (bytes : List ℕ) (at : ℕ) (t : Token) (f : ReadFault) → CutsFrom bytes at (Ok (Some t)) → FailsAfter s bytes t f → Fails (s ∷ σ) bytes at f
after_fails s σ bytes at t (faults.BadToken p) h k = bad_token s σ bytes at p t h k
after_fails s σ bytes at t (faults.BadStatement p) h k = after_stops s σ bytes at p t (faults.BadStatement p) h refl k
after_fails s σ bytes at t faults.Memory h k = tt

pub fails_past : (s : Sign) (σ : List Sign) (bytes : List ℕ) (t : Token) (f : ReadFault) → next s (class_of (lexeme_of bytes t)) ≡ Some σ → Fails σ bytes t.end f → FailsAfter s bytes t f
fails_past s σ bytes t (faults.BadToken p) n k = inr (σ, n, k)
fails_past s σ bytes t (faults.BadStatement p) n k = inr (σ, n, k)
fails_past s σ bytes t faults.Memory n k = tt

-- what a `?` returns
pub residual : {A : Type 0} (r : Result A ReadFault) (e : ReadFault) → IsErrAnd r (λ x. x ≡ e) → r ≡ Err e
residual (Ok a) e h = absurd h
residual (Err x) e h = ap (λ (y : ReadFault). Err y) h

-- a sign that is wanted
pub expected : (w : Kind) (bytes : List ℕ) (at : ℕ) (t : Token) → IsSign w → CutsFrom bytes at (Ok (Some t)) → kind_of (class_of (lexeme_of bytes t)) ≡ w
    → Goes (T (sign_class w) ∷ []) [] bytes at t.end (sign_says w ∷ [])
expected w bytes at t s h e =
    let l : lexeme_of bytes t ≡ sign_says w = sign_said w (lexeme_of bytes t) s e in
    let n : next (T (sign_class w)) (class_of (lexeme_of bytes t)) ≡ Some [] = ap (λ x. next (T (sign_class w)) (class_of x)) l ∙ sign_led w s in
    rw l at (goes_one (T (sign_class w)) [] bytes at t h n)

-- Places rise.

passes_size : (ps : List (List ℕ)) (a b : List ℕ) → Passes ps a b → length b ≤ length a
passes_size [] a b h = let e = ap length h in omega (arith, e)
passes_size (p ∷ ps) a b h = let r = passes_size ps h.0 b h.3 in let e = ap length h.2 in omega (arith, r, e, length-append p h.0)

stop_on : (bytes : List ℕ) (from at : ℕ) → from ≤ length bytes → StopsAt bytes from at → from ≤ at
stop_on bytes from at h k =
    let n = passes_size k.1.pieces (drop from bytes) (drop at bytes) k.1.passed in
    omega (arith, n, k.0, length-drop from bytes, length-drop at bytes)

token_within : (bytes : List ℕ) (t : Token) → t.start < t.end → IsFirst (drop t.start bytes) t.kind (t.end - t.start) → t.end ≤ length bytes
token_within bytes t lt h = omega (arith, h.within, length-drop t.start bytes, lt)

pub cuts_on : (bytes : List ℕ) (at end : ℕ) (ls : List Lexeme) → at ≤ length bytes → Cuts bytes at ls end → at ≤ end
cuts_on bytes at end [] h k = omega (arith, k)
cuts_on bytes at end (l ∷ ls) h k =
    let s = stop_on bytes at k.0.start h k.1.0 in
    let r = cuts_on bytes k.0.end end ls (token_within bytes k.0 k.1.1 k.1.2) k.3 in
    omega (arith, s, r, k.1.1)
