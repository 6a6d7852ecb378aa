-- Loops that are put together one after another.
use Rattle.std.proofs.Common.{◌≡◌, ℕ, ◌+◌, List, [], ◌∷◌, ◌++◌, length, map, sym, ap, subst, arith, ◌∙◌}
use Rattle.std.proofs.lemmas.List.{map-append}
use Rattle.std.proofs.lemmas.List.Elements.{All-push}
use Rattle.bim_model.specs.declared.geometry.Point.{Point}
use Rattle.void_bridge.specs.HoleLoops.{corner_count, AreLoops, IsLoop}

one_more : (loops : List (List Point)) (loop : List Point) → corner_count (loops ++ loop ∷ []) ≡ corner_count loops + length loop
one_more [] loop = omega arith
one_more (l ∷ loops) loop = ap (λ n. length l + n) (one_more loops loop) ∙ omega arith

module _ {V : Type 0} (f : V → List Point) where
  -- the corners of loops and of one more
  pub count_more : (made : List V) (new : V) (all : List V) → all ≡ made ++ new ∷ [] → corner_count (map f all) ≡ corner_count (map f made) + length (f new)
  count_more made new all e = ap (λ l. corner_count (map f l)) e ∙ ap corner_count (map-append f made (new ∷ [])) ∙ one_more (map f made) (f new)

  pub loops_more : (made : List V) (new : V) (all : List V) → all ≡ made ++ new ∷ [] → AreLoops (map f made) → IsLoop (f new) → AreLoops (map f all)
  loops_more made new all e before h = subst AreLoops (sym (ap (map f) e ∙ map-append f made (new ∷ []))) (All-push IsLoop (map f made) (f new) before h)
