-- Readings of several tokens, by what each token makes of what has been read.
use Rattle.std.proofs.Common.{◌≡◌, List, [], ◌∷◌, ◌++◌, Option, Some, None, refl, sym, ap, ◌∙◌, subst, append_assoc}
use Rattle.std.proofs.lemmas.List.{append-nil}
use Rattle.std.specs.Prelude.{option_and_then}
use Rattle.odata_filter.specs.FilterLexemes.{Lexeme}
use Rattle.odata_filter.proofs.OptionFacts.{some_is}

module _ {S : Type 0} (step : S → Lexeme → Option S) where
  -- what has been read with more tokens; none where one of them can't come
  abbrev pub run : S → List Lexeme → Option S
  run read [] = Some read
  run read (l ∷ ls) = option_and_then (λ next. run next ls) (step read l)

  -- one token, and then others
  pub run_cons : (read next : S) (l : Lexeme) (ls : List Lexeme) (o : Option S)
      → step read l ≡ Some next → run next ls ≡ o → run read (l ∷ ls) ≡ o
  run_cons read next l ls o one rest = ap (λ s. option_and_then (λ n. run n ls) s) one ∙ rest

  append_and_then : (ls ms : List Lexeme) (s : Option S)
      → ((n : S) → run n (ls ++ ms) ≡ option_and_then (λ k. run k ms) (run n ls))
      → option_and_then (λ n. run n (ls ++ ms)) s
      ≡ option_and_then (λ k. run k ms) (option_and_then (λ n. run n ls) s)
  append_and_then ls ms None h = refl
  append_and_then ls ms (Some n) h = h n

  pub run_append : (read : S) (ls ms : List Lexeme)
      → run read (ls ++ ms) ≡ option_and_then (λ next. run next ms) (run read ls)
  run_append read [] ms = refl
  run_append read (l ∷ ls) ms = append_and_then ls ms (step read l) (λ n. run_append n ls ms)

  -- some tokens, and then others
  pub run_then : (read next : S) (ls ms : List Lexeme) (o : Option S)
      → run read ls ≡ Some next → run next ms ≡ o → run read (ls ++ ms) ≡ o
  run_then read next ls ms o some rest =
      run_append read ls ms ∙ (ap (λ s. option_and_then (λ n. run n ms) s) some ∙ rest)

-- what each token keeps of what has been read, several keep
module _ {S : Type 0} (step : S → Lexeme → Option S) (Holding : S → List Lexeme → Type 0)
    (more : (read next : S) (ls : List Lexeme) (l : Lexeme) → step read l ≡ Some next → Holding read ls
    → Holding next (ls ++ l ∷ [])) where
  steps_hold : (read next : S) (ls : List Lexeme) (l : Lexeme) (ms : List Lexeme) (s : Option S)
      → step read l ≡ s → option_and_then (λ n. run step n ms) s ≡ Some next → Holding read ls
      → ((n : S) → run step n ms ≡ Some next → Holding n (ls ++ l ∷ []) → Holding next ((ls ++ l ∷ []) ++ ms))
      → Holding next (ls ++ l ∷ ms)
  steps_hold read next ls l ms None is e h go = cc
  steps_hold read next ls l ms (Some n) is e h go =
      subst (Holding next) (append_assoc ls (l ∷ []) ms) (go n e (more read n ls l is h))

  pub run_holds : (read next : S) (ls ms : List Lexeme) → run step read ms ≡ Some next → Holding read ls
      → Holding next (ls ++ ms)
  run_holds read next ls [] e h =
      subst (Holding next) (sym (append-nil ls)) (subst (λ r. Holding r ls) (some_is e) h)
  run_holds read next ls (l ∷ ms) e h =
      steps_hold read next ls l ms (step read l) refl e h
      (λ n rest holds. run_holds n next (ls ++ l ∷ []) ms rest holds)
