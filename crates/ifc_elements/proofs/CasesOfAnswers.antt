-- What is said of an answer, where it is known which one it is.
use Rattle.std.proofs.Common.{◌≡◌, Option, Some, None, Result, Ok, Err, subst}
use Rattle.std.specs.Result.{MatchResult}
use Rattle.std.specs.Option.{MatchOption}

-- a result

pub of_ok : {A E : Type 0} (S : A → Type 0) (F : E → Type 0) (r : Result A E) (x : A) → r ≡ Ok x → MatchResult r S F → S x
of_ok S F r x e h = subst (λ o. MatchResult o S F) e h

pub of_err : {A E : Type 0} (S : A → Type 0) (F : E → Type 0) (r : Result A E) (x : E) → r ≡ Err x → MatchResult r S F → F x
of_err S F r x e h = subst (λ o. MatchResult o S F) e h

-- a thing that may lack

pub of_none : {A : Type 0} (N : Type 0) (S : A → Type 0) (r : Option A) → r ≡ None → MatchOption r N S → N
of_none N S r e h = subst (λ o. MatchOption o N S) e h

pub of_some : {A : Type 0} (N : Type 0) (S : A → Type 0) (r : Option A) (x : A) → r ≡ Some x → MatchOption r N S → S x
of_some N S r x e h = subst (λ o. MatchOption o N S) e h
