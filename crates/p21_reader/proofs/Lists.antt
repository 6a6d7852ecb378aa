-- Values of a list are read one after another.
use Rattle.std.proofs.Common.{◌≡◌, ℕ, inl, inr, List, [], ◌∷◌, ◌++◌, map, Option, Some, option_map, Ok, refl, sym, ap, ◌∙◌, append_assoc}
use Rattle.p21_lexer.specs.declared.token.Token.{Token}
use Rattle.p21_lexer.specs.Cutting.{CutsFrom}
use Rattle.p21_values.specs.declared.fault.ReadFault.{ReadFault}
use Rattle.p21_values.specs.declared.fault.ReadFault.TheVariants as faults
use Rattle.p21_values.specs.declared.piece.Kind.{Kind}
use Rattle.p21_values.specs.declared.piece.Kind.TheVariants as kinds
use Rattle.p21_values.specs.declared.value.Value21.{Value21}
use Rattle.p21_values.specs.Grammar.{Class, Close, Value, Inside, After}
use Rattle.p21_reader.specs.Machine.{next, next_value}
use Rattle.p21_values.specs.Lexemes.{Lexeme, lexeme_of, class_of, Closing, Separator}
use Rattle.p21_values.specs.Printing.{print, behind}
use Rattle.p21_reader.specs.inner.TokenReading.{Goes, Fails, StopsAfter, FailsAfter, ReadsValue, sign_says}
use Rattle.p21_values.specs.TokenPieces.{kind_of, IsSign}
use Rattle.p21_reader.proofs.Signs.{sign_said}
use Rattle.p21_reader.proofs.Steps.{goes_one, goes_trans, goes_under, stops_under, fails_after, fails_under, after_fails}

-- so many values of a list stand after its first one
abbrev pub Behind : Option ℕ → List ℕ → ℕ → ℕ → List Value21 → Type 0
Behind d bytes from at values = Goes (After d ∷ []) (After d ∷ []) bytes from at (behind (map print values))

append_nil : {A : Type 0} (xs : List A) → xs ++ [] ≡ xs
append_nil [] = refl
append_nil (x ∷ xs) = ap (λ y. x ∷ y) (append_nil xs)

behind_more : (vs : List Value21) (v : Value21) → behind (map print (vs ++ v ∷ [])) ≡ behind (map print vs) ++ Separator ∷ print v
behind_more [] v = ap (λ x. Separator ∷ x) (append_nil (print v))
behind_more (u ∷ vs) v = ap (λ x. Separator ∷ x) (ap (λ x. print u ++ x) (behind_more vs v) ∙ sym (append_assoc (print u) (behind (map print vs)) (Separator ∷ print v)))

-- a value whose first token is there
pub value_goes : (d : ℕ) (bytes : List ℕ) (at end : ℕ) (t : Token) (v : Value21) → CutsFrom bytes at (Ok (Some t)) → ReadsValue d bytes t end v → Goes (Value (Some d) ∷ []) [] bytes at end (print v)
value_goes d bytes at end t v h r =
    rw r.spelled (goes_trans (Value (Some d) ∷ []) r.wanted [] bytes at t.end end (lexeme_of bytes t ∷ []) r.rest (goes_one (Value (Some d)) r.wanted bytes at t h r.begins) r.goes)

pub behind_value : (d : ℕ) (bytes : List ℕ) (from at end : ℕ) (comma item : Token) (vs : List Value21) (v : Value21) → Behind (Some d) bytes from at vs
    → CutsFrom bytes at (Ok (Some comma)) → lexeme_of bytes comma ≡ Separator → CutsFrom bytes comma.end (Ok (Some item)) → ReadsValue d bytes item end v → Behind (Some d) bytes from end (vs ++ v ∷ [])
behind_value d bytes from at end comma item vs v b h l k r =
    let one = goes_one (After (Some d)) (Value (Some d) ∷ After (Some d) ∷ []) bytes at comma h (rw l refl) in
    let two = goes_under (Value (Some d) ∷ []) [] (After (Some d) ∷ []) bytes comma.end end (print v) (value_goes d bytes comma.end end item v k r) in
    let both : Goes (After (Some d) ∷ []) (After (Some d) ∷ []) bytes at end (Separator ∷ print v) =
    rw l at (goes_trans (After (Some d) ∷ []) (Value (Some d) ∷ After (Some d) ∷ []) (After (Some d) ∷ []) bytes at comma.end end (lexeme_of bytes comma ∷ []) (print v) one two) in
    rw (behind_more vs v) (goes_trans (After (Some d) ∷ []) (After (Some d) ∷ []) (After (Some d) ∷ []) bytes from at end (behind (map print vs)) (Separator ∷ print v) b both)

pub behind_close : (d : ℕ) (bytes : List ℕ) (from at : ℕ) (close : Token) (vs : List Value21) → Behind (Some d) bytes from at vs
    → CutsFrom bytes at (Ok (Some close)) → lexeme_of bytes close ≡ Closing → Goes (After (Some d) ∷ []) [] bytes from close.end (behind (map print vs) ++ Closing ∷ [])
behind_close d bytes from at close vs b h l =
    let one : Goes (After (Some d) ∷ []) [] bytes at close.end (Closing ∷ []) = rw l at (goes_one (After (Some d)) [] bytes at close h (rw l refl)) in
    goes_trans (After (Some d) ∷ []) (After (Some d) ∷ []) [] bytes from at close.end (behind (map print vs)) (Closing ∷ []) b one

-- after a comma
pub comma_fails : (d : ℕ) (bytes : List ℕ) (at : ℕ) (comma : Token) (f : ReadFault) → CutsFrom bytes at (Ok (Some comma)) → lexeme_of bytes comma ≡ Separator → Fails (Value (Some d) ∷ []) bytes comma.end f
    → Fails (After (Some d) ∷ []) bytes at f
comma_fails d bytes at comma f h l k =
    fails_after (After (Some d) ∷ []) (Value (Some d) ∷ After (Some d) ∷ []) bytes at comma.end (lexeme_of bytes comma ∷ []) f
    (goes_one (After (Some d)) (Value (Some d) ∷ After (Some d) ∷ []) bytes at comma h (rw l refl)) (fails_under (Value (Some d) ∷ []) (After (Some d) ∷ []) bytes comma.end f k)

-- After an opening parenthesis.

class_not_close : (l : Lexeme) (k : Kind) → k ≡ kind_of (class_of l) → (k ≡ kinds.Close → ⊥) → class_of l ≡ Close → ⊥
class_not_close l k e h c = h (e ∙ ap kind_of c)

inside_next : (d : Option ℕ) (c : Class) → (c ≡ Close → ⊥) → next (Inside d) c ≡ option_map (λ r. r ++ After d ∷ []) (next_value d c)
inside_next d Close h = absurd (h refl)
inside_next d c h = refl

pub inside_value : (d : ℕ) (bytes : List ℕ) (at end : ℕ) (t : Token) (k : Kind) (v : Value21) → CutsFrom bytes at (Ok (Some t)) → k ≡ kind_of (class_of (lexeme_of bytes t)) → (k ≡ kinds.Close → ⊥)
    → ReadsValue d bytes t end v → Goes (Inside (Some d) ∷ []) (After (Some d) ∷ []) bytes at end (print v)
inside_value d bytes at end t k v h e n r =
    let i = inside_next (Some d) (class_of (lexeme_of bytes t)) (class_not_close (lexeme_of bytes t) k e n) in
    let j : next (Inside (Some d)) (class_of (lexeme_of bytes t)) ≡ Some (r.wanted ++ After (Some d) ∷ []) = i ∙ ap (λ o. option_map (λ r. r ++ After (Some d) ∷ []) o) r.begins in
    rw r.spelled (goes_trans (Inside (Some d) ∷ []) (r.wanted ++ After (Some d) ∷ []) (After (Some d) ∷ []) bytes at t.end end (lexeme_of bytes t ∷ []) r.rest
    (goes_one (Inside (Some d)) (r.wanted ++ After (Some d) ∷ []) bytes at t h j) (goes_under r.wanted [] (After (Some d) ∷ []) bytes t.end end r.rest r.goes))

inside_stops : (d : ℕ) (bytes : List ℕ) (t : Token) (f : ReadFault) → (class_of (lexeme_of bytes t) ≡ Close → ⊥) → StopsAfter (Value (Some d)) bytes t f → StopsAfter (Inside (Some d)) bytes t f
inside_stops d bytes t f n k =
    let i = inside_next (Some d) (class_of (lexeme_of bytes t)) n in
    elim k [
      | inl r ↦ inl (r.0, i ∙ ap (λ o. option_map (λ r. r ++ After (Some d) ∷ []) o) r.1)
      | inr r ↦ inr (r.0 ++ After (Some d) ∷ [], i ∙ ap (λ o. option_map (λ r. r ++ After (Some d) ∷ []) o) r.1, stops_under r.0 (After (Some d) ∷ []) bytes t.end f r.2)
    ]

inside_after : (d : ℕ) (bytes : List ℕ) (t : Token) (f : ReadFault) → (class_of (lexeme_of bytes t) ≡ Close → ⊥) → FailsAfter (Value (Some d)) bytes t f → FailsAfter (Inside (Some d)) bytes t f
inside_after d bytes t (faults.BadToken p) n k = inside_stops d bytes t (faults.BadToken p) n k
inside_after d bytes t (faults.BadStatement p) n k = inside_stops d bytes t (faults.BadStatement p) n k
inside_after d bytes t faults.Memory n k = tt

pub inside_fails : (d : ℕ) (bytes : List ℕ) (at : ℕ) (t : Token) (k : Kind) (f : ReadFault) → CutsFrom bytes at (Ok (Some t)) → k ≡ kind_of (class_of (lexeme_of bytes t)) → (k ≡ kinds.Close → ⊥)
    → FailsAfter (Value (Some d)) bytes t f → Fails (Inside (Some d) ∷ []) bytes at f
inside_fails d bytes at t k f h e n x = after_fails (Inside (Some d)) [] bytes at t f h (inside_after d bytes t f (class_not_close (lexeme_of bytes t) k e n) x)

pub inside_close : (d : ℕ) (bytes : List ℕ) (at : ℕ) (close : Token) → CutsFrom bytes at (Ok (Some close)) → lexeme_of bytes close ≡ Closing → Goes (Inside (Some d) ∷ []) [] bytes at close.end (Closing ∷ [])
inside_close d bytes at close h l = rw l at (goes_one (Inside (Some d)) [] bytes at close h (rw l refl))

-- A value.

pub said : (l : Lexeme) (k : Kind) → IsSign k → k ≡ kind_of (class_of l) → l ≡ sign_says k
said l k s e = sign_said k l s (sym e)
