-- One token, where so many parentheses are open.
use Rattle.std.proofs.Common.{◌≡◌, ℕ, zero, suc, ◌+◌, ◌-◌, ◌<◌, ◌≤◌, List, [], ◌∷◌, ◌++◌, length, get_or, set, Bool, true, false, Option, Some, None, option_map, Ok, refl, subst, arith, add-one}
use Rattle.std.proofs.lemmas.List.{get_or-set_same, get_or-set_other}
use Rattle.p21_values.specs.declared.piece.Kind.TheVariants as kinds
use Rattle.p21_values.specs.Grammar.{Class, Simple, Name, Open, Close, Word, Sign, T, Value, Inside}
use Rattle.p21_reader.specs.Machine.{next, step}
use Rattle.p21_values.specs.TokenPieces.{kind_of}
use Rattle.p21_lexer.specs.declared.token.Token.{Token}
use Rattle.p21_lexer.specs.Cutting.{CutsFrom}
use Rattle.p21_values.specs.declared.fault.ReadFault.{ReadFault}
use Rattle.p21_values.specs.declared.fault.ReadFault.TheVariants as faults
use Rattle.p21_reader.specs.declared.passing.Top.{Top}
use Rattle.p21_reader.specs.declared.passing.Top.TheVariants as tops
use Rattle.p21_values.specs.Lexemes.{lexeme_of, class_of}
use Rattle.p21_reader.specs.inner.TokenReading.{Goes, Fails}
use Rattle.p21_values.specs.TokenPieces.{NoToken}
use Rattle.p21_reader.specs.inner.ValueNesting.{wanted, signs}
use Rattle.p21_reader.proofs.Steps.{goes_one, goes_under, fails_none, fails_refused}

-- levels that are open don't hang on what is kept above them
pub wanted_set : (most k i : ℕ) (typed : List Bool) (b : Bool) → k ≤ i → wanted most k (set typed i b) ≡ wanted most k typed
wanted_set most zero i typed b h = refl
wanted_set most (suc k) i typed b h =
    let e : get_or (set typed i b) k false ≡ get_or typed k false = get_or-set_other typed i k b false (λ x. absurd (omega (arith, h, x))) in
    rw (e, wanted_set most k i typed b (omega (arith, h))) refl

pub one_less : (most depth : ℕ) → depth < most → most - depth ≡ suc (most - (depth + 1))
one_less most depth h = omega (arith, h)

-- a value of one token
pub plain_step : (d : Option ℕ) (α : List Sign) (c : Class) → (kind_of c ≡ kinds.Simple → step (Value d ∷ α) c ≡ Some α) × (kind_of c ≡ kinds.Name → step (Value d ∷ α) c ≡ Some α)
plain_step d α Simple = ((λ h. refl), (λ h. refl))
plain_step d α Name = ((λ h. refl), (λ h. refl))
plain_step d α c = ((λ h. cc), (λ h. cc))

open_step : (e : ℕ) (α : List Sign) (c : Class) → kind_of c ≡ kinds.Open → step (Value (Some (suc e)) ∷ α) c ≡ Some (Inside (Some e) ∷ α)
open_step e α Open h = refl
open_step e α c h = cc

word_step : (e : ℕ) (α : List Sign) (c : Class) → kind_of c ≡ kinds.Word → step (Value (Some (suc e)) ∷ α) c ≡ Some (T Open ∷ Value (Some e) ∷ T Close ∷ α)
word_step e α (Word m) h = refl
word_step e α c h = cc

pub opened : (most depth : ℕ) (typed : List Bool) (c : Class) → depth < most → kind_of c ≡ kinds.Open
    → step (Value (Some (most - depth)) ∷ wanted most depth typed) c ≡ Some (Inside (Some (most - (depth + 1))) ∷ wanted most (depth + 1 - 1) (set typed depth false))
opened most depth typed c h k =
    let e = one_less most depth h in
    let w = wanted_set most depth depth typed false (omega arith) in
    let d : depth + 1 - 1 ≡ depth = omega arith in
    rw (e, d, w) (open_step (most - (depth + 1)) (wanted most depth typed) c k)

-- one level more that holds the value of a keyword
held : (most depth : ℕ) (typed : List Bool) → depth < length typed → wanted most (depth + 1) (set typed depth true) ≡ T Close ∷ wanted most depth typed
held most depth typed h = rw (add-one depth, get_or-set_same typed depth true false h, wanted_set most depth depth typed true (omega arith)) refl

pub worded : (most depth : ℕ) (typed : List Bool) (c : Class) → depth < most → depth < length typed → kind_of c ≡ kinds.Word
    → step (Value (Some (most - depth)) ∷ wanted most depth typed) c ≡ Some (T Open ∷ Value (Some (most - (depth + 1))) ∷ wanted most (depth + 1) (set typed depth true))
worded most depth typed c h l k =
    let e = one_less most depth h in
    rw (held most depth typed l, e) (word_step (most - (depth + 1)) (wanted most depth typed) c k)

-- after a value

-- Of the whole way.

-- one token more
pub step_goes : (σ τ : List Sign) (bytes : List ℕ) (at : ℕ) (t : Token) → CutsFrom bytes at (Ok (Some t)) → step σ (class_of (lexeme_of bytes t)) ≡ Some τ → Goes σ τ bytes at t.end (lexeme_of bytes t ∷ [])
step_goes [] τ bytes at t h e = cc
step_goes (s ∷ σ) τ bytes at t h e = by_next (next s (class_of (lexeme_of bytes t))) refl e
  where
    by_next : (o : Option (List Sign)) → next s (class_of (lexeme_of bytes t)) ≡ o → option_map (λ r. r ++ σ) o ≡ Some τ → Goes (s ∷ σ) τ bytes at t.end (lexeme_of bytes t ∷ [])
    by_next None n e = cc
    by_next (Some r) n e =
        let f : r ++ σ ≡ τ = cc in
        subst (λ (x : List Sign). Goes (s ∷ σ) x bytes at t.end (lexeme_of bytes t ∷ [])) f (goes_under (s ∷ []) r σ bytes at t.end (lexeme_of bytes t ∷ []) (goes_one s r bytes at t h n))

-- what is wanted has a first sign
pub fails_here : (σ : List Sign) (bytes : List ℕ) (at : ℕ) (f : ReadFault) → (σ ≡ [] → ⊥) → NoToken bytes at f → Fails σ bytes at f
fails_here [] bytes at f n h = absurd (n refl)
fails_here (s ∷ σ) bytes at f n h = fails_none s σ bytes at f h

pub fails_token : (σ : List Sign) (bytes : List ℕ) (at p : ℕ) (t : Token) → (σ ≡ [] → ⊥) → CutsFrom bytes at (Ok (Some t)) → step σ (class_of (lexeme_of bytes t)) ≡ None → p ≡ t.start → Fails σ bytes at (faults.BadStatement p)
fails_token [] bytes at p t n h e q = absurd (n refl)
fails_token (s ∷ σ) bytes at p t n h e q = fails_refused s σ bytes at p t h (none_next (next s (class_of (lexeme_of bytes t))) e) q
  where
    none_next : (o : Option (List Sign)) → option_map (λ r. r ++ σ) o ≡ None → o ≡ None
    none_next None e = refl
    none_next (Some r) e = cc

pub some_sign : (most : ℕ) (top : Top) (depth : ℕ) (typed : List Bool) → (top ≡ tops.Behind → 0 < depth) → signs most top depth typed ≡ [] → ⊥
some_sign most tops.Value depth typed h e = cc
some_sign most tops.Inside depth typed h e = cc
some_sign most tops.Opening depth typed h e = cc
some_sign most tops.Behind zero typed h e = let k = h refl in omega (arith, k)
some_sign most tops.Behind (suc depth) typed h e = cc
