-- The reading of a text has one answer, but for want of memory.
use Rattle.std.proofs.Common.{◌≡◌, ℕ, List, [], ◌∷◌, ◌++◌, ◌⊎◌, inl, inr, length, Result, Ok, Err, refl, sym, ap, ◌∙◌, subst, append_assoc, arith}
use Rattle.std.proofs.lemmas.List.{append-nil, map-append}
use Rattle.odata_filter.specs.declared.filter_tokens.Token.{Token}
use Rattle.odata_filter.specs.declared.filter_error.FilterError.{FilterError}
use Rattle.odata_filter.specs.declared.filter_error.FilterError.TheVariants.{Bad, Memory}
use Rattle.odata_filter.specs.FilterTokens.{tokens_of}
use Rattle.odata_filter.specs.FilterLexemes.{Lexeme, lexeme_of, lexemes, lexemes_of}
use Rattle.odata_filter.specs.Readings.{IsViable, StopsAt, EndsEarly, IsRead, AreOneReading}

-- two cuts of one list: at the same element, or one behind the other
data Cuts {A : Type 0} (xs : List A) (x : A) (ys : List A) (y : A) : Type 0 where
  same : x ≡ y → Cuts xs x ys y
  earlier : (more : List A) → ys ≡ xs ++ x ∷ more → Cuts xs x ys y
  later : (more : List A) → xs ≡ ys ++ y ∷ more → Cuts xs x ys y

cuts_more : {A : Type 0} (h : A) {xs ys : List A} {x y : A} → Cuts xs x ys y → Cuts (h ∷ xs) x (h ∷ ys) y
cuts_more h (same e) = same e
cuts_more h (earlier more e) = earlier more (ap (λ l. h ∷ l) e)
cuts_more h (later more e) = later more (ap (λ l. h ∷ l) e)

cuts : {A : Type 0} (xs ys : List A) (x y : A) (us vs : List A) → xs ++ x ∷ us ≡ ys ++ y ∷ vs → Cuts xs x ys y
cuts [] [] x y us vs e = same cc
cuts [] (k ∷ ys) x y us vs e = let head : x ≡ k = cc in earlier ys (ap (λ h. h ∷ ys) (sym head))
cuts (h ∷ xs) [] x y us vs e = let head : h ≡ y = cc in later xs (ap (λ k. k ∷ xs) head)
cuts (h ∷ xs) (k ∷ ys) x y us vs e =
    let head : h ≡ k = cc in
    let rest : xs ++ x ∷ us ≡ ys ++ y ∷ vs = cc in
    subst (λ j. Cuts (h ∷ xs) x (j ∷ ys) y) head (cuts_more h (cuts xs ys x y us vs rest))

module _ {A : Type 0} (Means : List Lexeme → A → Type 0) (text : List ℕ) where
  -- tokens that begin a text of the grammar, without their last ones
  shorter : (before : List Token) (t : Token) (more : List Token) → IsViable Means (lexemes text (before ++ t ∷ more))
      → IsViable Means (lexemes text (before ++ t ∷ []))
  shorter before t more v = (
    lexemes text more ++ v.0,
    v.1,
    subst (λ ls. Means ls v.1)
        (ap (λ ls. ls ++ v.0) (ap (lexemes text) (sym (append_assoc before (t ∷ []) more))
        ∙ map-append (lexeme_of text) (before ++ t ∷ []) more)
        ∙ append_assoc (lexemes text (before ++ t ∷ [])) (lexemes text more) v.0) v.2,
  )

  -- a whole text begins itself
  whole : (x : A) → Means (lexemes_of text) x → IsViable Means (lexemes_of text)
  whole x d = ([], x, subst (λ ls. Means ls x) (sym (append-nil (lexemes_of text))) d)

  -- tokens that begin a text of the grammar go as far as they can
  goes_on : (a : ℕ) → StopsAt Means text a → IsViable Means (lexemes_of text) → ⊥
  goes_on a s v = s.stops (shorter s.before s.token s.after
      (subst (λ ts. IsViable Means (lexemes text ts)) s.cut v))

  stop_cuts : (a b : ℕ) (s : StopsAt Means text a) (t : StopsAt Means text b)
      → Cuts s.before s.token t.before t.token → a ≡ b
  stop_cuts a b s t (same e) = s.place ∙ (ap (λ (k : Token). k.at) e ∙ sym t.place)
  stop_cuts a b s t (earlier more e) = absurd (s.stops (shorter s.before s.token more
      (subst (λ ts. IsViable Means (lexemes text ts)) e t.begins)))
  stop_cuts a b s t (later more e) = absurd (t.stops (shorter t.before t.token more
      (subst (λ ts. IsViable Means (lexemes text ts)) e s.begins)))

  one_stop : (a b : ℕ) → StopsAt Means text a → StopsAt Means text b → a ≡ b
  one_stop a b s t =
      stop_cuts a b s t (cuts s.before t.before s.token t.token s.after t.after (sym s.cut ∙ t.cut))

  one_place : (a b : ℕ) → StopsAt Means text a ⊎ EndsEarly Means text a → StopsAt Means text b ⊎ EndsEarly Means text b
      → a ≡ b
  one_place a b (inl s) (inl t) = one_stop a b s t
  one_place a b (inl s) (inr t) = absurd (goes_on a s t.begins)
  one_place a b (inr s) (inl t) = absurd (goes_on b t s.begins)
  one_place a b (inr s) (inr t) = s.place ∙ sym t.place

  not_bad : (x : A) (a : ℕ) → Means (lexemes_of text) x → StopsAt Means text a ⊎ EndsEarly Means text a → ⊥
  not_bad x a d (inl s) = goes_on a s (whole x d)
  not_bad x a d (inr s) = s.none x d

  bad_is : (x : A) (a : ℕ) → IsRead Means text (Ok x) → IsRead Means text (Err (Bad a)) → ⊥
  bad_is x a d (inl long) = let short = d.0 in omega (arith, long.0)
  bad_is x a d (inr h) = not_bad x a d.1 h.1

  bads_are : (a b : ℕ) → IsRead Means text (Err (Bad a)) → IsRead Means text (Err (Bad b)) → a ≡ b
  bads_are a b (inl h) (inl k) = h.1 ∙ sym k.1
  bads_are a b (inl h) (inr k) = absurd (omega (arith, h.0, k.0))
  bads_are a b (inr h) (inl k) = absurd (omega (arith, h.0, k.0))
  bads_are a b (inr h) (inr k) = one_place a b h.1 k.1

  -- a text whose meaning is one is read in one way
  pub one_reading : ((x y : A) → Means (lexemes_of text) x → Means (lexemes_of text) y → x ≡ y)
      → (r s : Result A FilterError) → IsRead Means text r → IsRead Means text s → AreOneReading r s
  one_reading one (Ok x) (Ok y) d e = inl (ap Ok (one x y d.1 e.1))
  one_reading one (Ok x) (Err (Bad b)) d e = absurd (bad_is x b d e)
  one_reading one (Ok x) (Err Memory) d e = inr (inr refl)
  one_reading one (Err (Bad a)) (Ok y) d e = absurd (bad_is y a e d)
  one_reading one (Err (Bad a)) (Err (Bad b)) d e = inl (ap (λ k. Err (Bad k)) (bads_are a b d e))
  one_reading one (Err (Bad a)) (Err Memory) d e = inr (inr refl)
  one_reading one (Err Memory) s d e = inr (inl refl)
