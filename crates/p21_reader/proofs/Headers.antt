-- Signs that are wanted, kept with the last first, followed token by token.
use Rattle.std.proofs.Common.{◌≡◌, ℕ, inl, inr, List, [], ◌∷◌, ◌++◌, Some, None, Ok, refl, sym, ap, ◌∙◌, append_assoc}
use Rattle.p21_lexer.specs.declared.token.Token.{Token}
use Rattle.p21_lexer.specs.Cutting.{CutsFrom}
use Rattle.p21_values.specs.declared.fault.ReadFault.{ReadFault}
use Rattle.p21_reader.specs.declared.nested.Want.{Want}
use Rattle.p21_values.specs.Grammar.{Sign, Inside}
use Rattle.p21_values.specs.Lexemes.{Lexeme, lexeme_of, class_of}
use Rattle.p21_reader.specs.inner.TokenReading.{Goes, Fails}
use Rattle.p21_reader.specs.inner.Heading.{sign_of, signs_of, Follows, FollowsNot}
use Rattle.p21_reader.proofs.Steps.{goes_one, goes_trans, goes_under, fails_after, fails_refused}

append_nil : {A : Type 0} (xs : List A) → xs ++ [] ≡ xs
append_nil [] = refl
append_nil (x ∷ xs) = ap (λ y. x ∷ y) (append_nil xs)

abbrev pub nest : List Sign
nest = Inside None ∷ []

pub signs_append : (vs ws : List Want) → signs_of (vs ++ ws) ≡ signs_of ws ++ signs_of vs
signs_append [] ws = sym (append_nil (signs_of ws))
signs_append (v ∷ vs) ws = ap (λ x. x ++ sign_of v ∷ []) (signs_append vs ws) ∙ append_assoc (signs_of ws) (signs_of vs) (sign_of v ∷ [])

-- so far the values lead to what is wanted
pub record Heads (bytes : List ℕ) (from at : ℕ) (wants : List Want) : Type 0 where
  pub said : List Lexeme
  pub goes : Goes nest (signs_of wants) bytes from at said

popped : (old left : List Want) (want : Want) → old ≡ left ++ want ∷ [] → signs_of old ≡ sign_of want ∷ signs_of left
popped old left want e = ap signs_of e ∙ signs_append left (want ∷ [])

pub heads_step : (bytes : List ℕ) (from at : ℕ) (old left new : List Want) (want : Want) (t : Token) → Heads bytes from at old → old ≡ left ++ want ∷ [] → CutsFrom bytes at (Ok (Some t))
    → Follows (sign_of want) (class_of (lexeme_of bytes t)) (signs_of left) (signs_of new) → Heads bytes from t.end new
heads_step bytes from at old left new want t h e k f =
    let one = goes_under (sign_of want ∷ []) f.0 (signs_of left) bytes at t.end (lexeme_of bytes t ∷ []) (goes_one (sign_of want) f.0 bytes at t k f.1) in
    let so_far : Goes nest (sign_of want ∷ signs_of left) bytes from at h.said = rw (← popped old left want e) h.goes in
    record {
      said = h.said ++ lexeme_of bytes t ∷ [];
      goes = rw f.2 (goes_trans nest (sign_of want ∷ signs_of left) (f.0 ++ signs_of left) bytes from at t.end h.said (lexeme_of bytes t ∷ []) so_far one);
    }

pub heads_fail : (bytes : List ℕ) (from at : ℕ) (old left : List Want) (want : Want) (f : ReadFault) → Heads bytes from at old → old ≡ left ++ want ∷ [] → Fails (sign_of want ∷ signs_of left) bytes at f → Fails nest bytes from f
heads_fail bytes from at old left want f h e k =
    let so_far : Goes nest (sign_of want ∷ signs_of left) bytes from at h.said = rw (← popped old left want e) h.goes in
    fails_after nest (sign_of want ∷ signs_of left) bytes from at h.said f so_far k

pub follow_fail : (s : Sign) (σ : List Sign) (bytes : List ℕ) (at : ℕ) (t : Token) (f : ReadFault) → CutsFrom bytes at (Ok (Some t)) → FollowsNot s bytes t f → Fails (s ∷ σ) bytes at f
follow_fail s σ bytes at t f h k = elim k [
  | inl e ↦ rw e tt
  | inr e ↦ rw e.0 (fails_refused s σ bytes at t.start t h e.1 refl)
]
