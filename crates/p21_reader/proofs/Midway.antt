-- Midway through a value whose first token is given: what was passed over, and how many values it told.
use Rattle.std.proofs.Common.{◌≡◌, ℕ, ◌+◌, ◌-◌, ◌<◌, inl, inr, ◌⊎◌, Bool, List, [], ◌∷◌, ◌++◌, Option, Some, None, option_map, Ok, arith, refl, sym, ap, subst, ◌∙◌}
use Rattle.p21_lexer.specs.declared.token.Token.{Token}
use Rattle.p21_lexer.specs.Cutting.{CutsFrom}
use Rattle.p21_values.specs.declared.fault.ReadFault.{ReadFault}
use Rattle.p21_values.specs.declared.fault.ReadFault.TheVariants as faults
use Rattle.p21_values.specs.declared.piece.Kind.{Kind}
use Rattle.p21_values.specs.declared.piece.Kind.TheVariants as kinds
use Rattle.p21_reader.specs.declared.passing.Top.{Top}
use Rattle.p21_reader.specs.declared.passing.Top.TheVariants as tops
use Rattle.p21_values.specs.Grammar.{Sign, Value}
use Rattle.p21_reader.specs.Machine.{next, step, run}
use Rattle.p21_values.specs.Lexemes.{Lexeme, lexeme_of, class_of, classes}
use Rattle.p21_reader.specs.inner.TokenReading.{Goes, FailsAfter}
use Rattle.p21_values.specs.TokenPieces.{NoToken, kind_of}
use Rattle.p21_reader.specs.inner.ValueNesting.{signs, tells}
use Rattle.p21_reader.specs.inner.Tabling.{Counts, PassesValue}
use Rattle.p21_reader.proofs.Viable.{sound}
use Rattle.p21_reader.proofs.Steps.{goes_here, goes_trans, fails_after, fails_past}
use Rattle.p21_reader.proofs.Levels.{step_goes, plain_step, fails_here, fails_token, some_sign}
use Rattle.p21_reader.proofs.Contained.{value_said, told, told_append, size_told}

-- some tokens from the given one on are passed over, and lead to what is wanted here
pub record Taken (most : ℕ) (top : Top) (depth : ℕ) (typed : List Bool) (bytes : List ℕ) (t : Token) (at before after : ℕ) : Type 0 where
  pub wanted : List Sign
  pub rest : List Lexeme
  pub begins : next (Value (Some most)) (class_of (lexeme_of bytes t)) ≡ Some wanted
  pub goes : Goes wanted (signs most top depth typed) bytes t.end at rest
  pub counts : Counts before after (told (lexeme_of bytes t ∷ rest))

-- the token that comes is the given one, or is cut after those that are passed over
pub data Midway (most : ℕ) (top : Top) (depth : ℕ) (typed : List Bool) (bytes : List ℕ) (t p : Token) (before after : ℕ) : Type 0 where
  fresh : top ≡ tops.Value → depth ≡ 0 → p ≡ t → before ≡ after → Midway most top depth typed bytes t p before after
  behind : (at : ℕ) → Taken most top depth typed bytes t at before after → CutsFrom bytes at (Ok (Some p)) → Midway most top depth typed bytes t p before after

nil_right : {A : Type 0} (xs : List A) → xs ++ [] ≡ xs
nil_right [] = refl
nil_right (x ∷ xs) = ap (λ y. x ∷ y) (nil_right xs)

-- one step from a sign alone
pub alone_next : (s : Sign) (τ : List Sign) (l : Lexeme) → step (s ∷ []) (class_of l) ≡ Some τ → next s (class_of l) ≡ Some τ
alone_next s τ l e = by_next (next s (class_of l)) refl e
  where
    by_next : (o : Option (List Sign)) → next s (class_of l) ≡ o → option_map (λ r. r ++ []) o ≡ Some τ → next s (class_of l) ≡ Some τ
    by_next None n e = cc
    by_next (Some r) n e = let f : r ++ [] ≡ τ = cc in n ∙ ap (λ (x : List Sign). Some x) (sym (nil_right r) ∙ f)

pub alone_none : (s : Sign) (l : Lexeme) → step (s ∷ []) (class_of l) ≡ None → next s (class_of l) ≡ None
alone_none s l e = by_next (next s (class_of l)) refl e
  where
    by_next : (o : Option (List Sign)) → next s (class_of l) ≡ o → option_map (λ r. r ++ []) o ≡ None → next s (class_of l) ≡ None
    by_next None n e = n
    by_next (Some r) n e = cc

-- what is wanted at the given token
first_signs : (most : ℕ) (top : Top) (depth : ℕ) (typed : List Bool) → top ≡ tops.Value → depth ≡ 0 → signs most top depth typed ≡ Value (Some most) ∷ []
first_signs most top depth typed e d = let z : most - 0 ≡ most = omega arith in rw (e, d, z) refl

pub counts_more : (before middle after m n : ℕ) → Counts before middle m → Counts middle after n → Counts before after (m + n)
counts_more before middle after m n h k = omega (arith, h, k)

counts_one : (before middle after n : ℕ) → before ≡ middle → Counts middle after n → Counts before after (n + 0)
counts_one before middle after n h k = omega (arith, h, k)

-- the token that comes is passed over
pub taken : (most : ℕ) (top new : Top) (depth deep : ℕ) (typed kept : List Bool) (bytes : List ℕ) (t p : Token) (before middle after : ℕ) (k : Kind) → Midway most top depth typed bytes t p before middle
    → step (signs most top depth typed) (class_of (lexeme_of bytes p)) ≡ Some (signs most new deep kept) → k ≡ kind_of (class_of (lexeme_of bytes p)) → Counts middle after (tells k)
    → Taken most new deep kept bytes t p.end before after
taken most top new depth deep typed kept bytes t p before middle after k (fresh e d s n) h seen c =
    let g = ap (λ x. step x (class_of (lexeme_of bytes p))) (sym (first_signs most top depth typed e d)) ∙ h in
    let f = alone_next (Value (Some most)) (signs most new deep kept) (lexeme_of bytes p) g in
    let P : Token → Type 0 = λ x. Taken most new deep kept bytes x p.end before after in
    subst P s (record {
      wanted = signs most new deep kept;
      rest = [];
      begins = f;
      goes = goes_here (signs most new deep kept) bytes p.end;
      counts = counts_one before middle after (tells (kind_of (class_of (lexeme_of bytes p)))) n (subst (λ x. Counts middle after (tells x)) seen c);
    })
taken most top new depth deep typed kept bytes t p before middle after k (behind at m u) h seen c = record {
  wanted = m.wanted;
  rest = m.rest ++ lexeme_of bytes p ∷ [];
  begins = m.begins;
  goes = goes_trans m.wanted (signs most top depth typed) (signs most new deep kept) bytes t.end at p.end m.rest (lexeme_of bytes p ∷ []) m.goes
      (step_goes (signs most top depth typed) (signs most new deep kept) bytes at p u h);
  counts =
      (let e = told_append (lexeme_of bytes t ∷ m.rest) (lexeme_of bytes p ∷ []) in
      let d = counts_more before middle after (told (lexeme_of bytes t ∷ m.rest)) (tells (kind_of (class_of (lexeme_of bytes p))) + 0) m.counts
      (counts_one middle middle after (tells (kind_of (class_of (lexeme_of bytes p)))) refl (subst (λ x. Counts middle after (tells x)) seen c)) in
      subst (λ x. Counts before after x) (sym e) d);
}

-- it can't stand there
pub midway_refused : (most : ℕ) (top : Top) (depth : ℕ) (typed : List Bool) (bytes : List ℕ) (t p : Token) (before after : ℕ) → Midway most top depth typed bytes t p before after → (top ≡ tops.Behind → 0 < depth)
    → step (signs most top depth typed) (class_of (lexeme_of bytes p)) ≡ None → FailsAfter (Value (Some most)) bytes t (faults.BadStatement p.start)
midway_refused most top depth typed bytes t p before after (fresh e d s n) o h =
    let g = ap (λ x. step x (class_of (lexeme_of bytes p))) (sym (first_signs most top depth typed e d)) ∙ h in
    let f = alone_none (Value (Some most)) (lexeme_of bytes p) g in
    let P : Token → Type 0 = λ x. FailsAfter (Value (Some most)) bytes x (faults.BadStatement p.start) in
    subst P s (inl (refl, f))
midway_refused most top depth typed bytes t p before after (behind at m u) o h =
    fails_past (Value (Some most)) m.wanted bytes t (faults.BadStatement p.start) m.begins
    (fails_after m.wanted (signs most top depth typed) bytes t.end at m.rest (faults.BadStatement p.start) m.goes
    (fails_token (signs most top depth typed) bytes at p.start p (some_sign most top depth typed o) u h refl))

-- no token follows
pub taken_none : (most : ℕ) (top : Top) (depth : ℕ) (typed : List Bool) (bytes : List ℕ) (t : Token) (at before after : ℕ) (f : ReadFault) → Taken most top depth typed bytes t at before after → (top ≡ tops.Behind → 0 < depth)
    → NoToken bytes at f → FailsAfter (Value (Some most)) bytes t f
taken_none most top depth typed bytes t at before after f m o h =
    fails_past (Value (Some most)) m.wanted bytes t f m.begins
    (fails_after m.wanted (signs most top depth typed) bytes t.end at m.rest f m.goes (fails_here (signs most top depth typed) bytes at f (some_sign most top depth typed o) h))

-- the value has ended
over_signs : (most : ℕ) (top : Top) (depth : ℕ) (typed : List Bool) → top ≡ tops.Behind → depth ≡ 0 → signs most top depth typed ≡ []
over_signs most top depth typed e d = rw (e, d) refl

value_run : (most : ℕ) (l : Lexeme) (σ : List Sign) (ls : List Lexeme) → next (Value (Some most)) (class_of l) ≡ Some σ → run (σ ++ []) (classes ls) ≡ Some [] → run (Value (Some most) ∷ []) (classes (l ∷ ls)) ≡ Some []
value_run most l σ ls n h = rw n h

ended : (most : ℕ) (bytes : List ℕ) (t : Token) (end before after : ℕ) (σ : List Sign) (ls : List Lexeme) → next (Value (Some most)) (class_of (lexeme_of bytes t)) ≡ Some σ → Goes σ [] bytes t.end end ls
    → Counts before after (told (lexeme_of bytes t ∷ ls)) → PassesValue most bytes t before after (Ok end)
ended most bytes t end before after σ ls n g c =
    let d = sound (Value (Some most) ∷ []) (classes (lexeme_of bytes t ∷ ls)) (value_run most (lexeme_of bytes t) σ ls n (g.leads [])) in
    let v = value_said (Some most) (lexeme_of bytes t ∷ ls) d in (
      v.0,
      record { wanted = σ; rest = ls; begins = n; goes = g; spelled = sym v.1 },
      subst (λ x. Counts before after x) (ap told v.1 ∙ sym (size_told v.0)) c,
    )

pub taken_all : (most : ℕ) (top : Top) (depth : ℕ) (typed : List Bool) (bytes : List ℕ) (t : Token) (at before after : ℕ) → Taken most top depth typed bytes t at before after → (top ≡ tops.Behind) × (depth ≡ 0)
    → PassesValue most bytes t before after (Ok at)
taken_all most top depth typed bytes t at before after m h =
    ended most bytes t at before after m.wanted m.rest m.begins (subst (λ x. Goes m.wanted x bytes t.end at m.rest) (over_signs most top depth typed h.0 h.1) m.goes) m.counts

-- a value of one token
plain_next : (d : Option ℕ) (l : Lexeme) (k : Kind) → k ≡ kind_of (class_of l) → (k ≡ kinds.Simple) ⊎ (k ≡ kinds.Name) → next (Value d) (class_of l) ≡ Some []
plain_next d l k e h = elim h [
  | inl s ↦ alone_next (Value d) [] l ((plain_step d [] (class_of l)).0 (sym e ∙ s))
  | inr s ↦ alone_next (Value d) [] l ((plain_step d [] (class_of l)).1 (sym e ∙ s))
]

pub plain_value : (most : ℕ) (bytes : List ℕ) (t : Token) (before after : ℕ) (k : Kind) → k ≡ kind_of (class_of (lexeme_of bytes t)) → (k ≡ kinds.Simple) ⊎ (k ≡ kinds.Name) → Counts before after (tells k)
    → PassesValue most bytes t before after (Ok t.end)
plain_value most bytes t before after k e h c =
    ended most bytes t t.end before after [] [] (plain_next (Some most) (lexeme_of bytes t) k e h) (goes_here [] bytes t.end)
    (counts_one before before after (tells (kind_of (class_of (lexeme_of bytes t)))) refl (subst (λ x. Counts before after (tells x)) e c))
