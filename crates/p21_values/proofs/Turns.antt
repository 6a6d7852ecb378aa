-- Loops over values and instances where they stand: what was given so far, the item of a turn, and the end. `first` is what the loop began
-- with, `given` its items so far, `left` what is left of it, and `after` what a turn leaves.
use Rattle.std.proofs.Common.{◌≡◌, ◌<◌, ◌≤◌, ◌+◌, ◌++◌, ◌∷◌, [], List, Option, Some, None, length, take, get_or, sym, ap, ◌∙◌, map-id, arith}
use Rattle.std.proofs.lemmas.List.{length-append}
use Rattle.std.specs.Iterator.{Yields, YieldsFirst}
use Rattle.std.proofs.lemmas.Iterator.{YieldsList}
use Rattle.std.proofs.lemmas.Iterator.Consumers.{YieldsList-from_first, YieldsList-so_far, YieldsList-turn, YieldsList-end}

-- a turn adds one to what was given
pub one_more : {A : Type 0} (given : List A) (x : A) → length given + 1 ≡ length (given ++ x ∷ [])
one_more given x = sym (length-append given (x ∷ []))

road : {A : Type 0} {first : List A} (all : List A) → first ≡ all → YieldsList (YieldsFirst (λ l. l)) (λ x. x) first all
road all begins = YieldsList-from_first (λ x. x) (λ l. l) all begins

module _ {A : Type 0} {first : List A} (all given : List A) (begins : first ≡ all) (left : List A) (ran : Yields (YieldsFirst (λ l. l)) first given left) where
  -- the items so far are a front of the list
  pub so_far : given ≡ take (length given) all
  so_far = sym (map-id given) ∙ YieldsList-so_far (road all begins) given left ran

  -- the item of a turn stands behind them
  pub turn : {x : A} {r : Option A} (after : List A) → r ≡ Some x → YieldsFirst (λ l. l) left r after
      → (length given < length all) × (x ≡ get_or all (length given) x)
  turn {x} {r} after is steps = YieldsList-turn (road all begins) given left ran r after x is steps

  -- at the end all were given
  pub ended : {r : Option A} (after : List A) → r ≡ None → YieldsFirst (λ l. l) left r after → given ≡ all
  ended {r} after is steps = sym (map-id given) ∙ (YieldsList-end (road all begins) given left ran r after is steps).0

  pub spent : {r : Option A} (after : List A) → r ≡ None → YieldsFirst (λ l. l) left r after → length all ≤ length given
  spent after is steps = omega (arith, ap length (ended after is steps))
