-- Rows from whose front one is taken.
use Rattle.std.proofs.Common.{◌≡◌, ℕ, List, [], ◌∷◌, ◌++◌, map, sym, ◌∙◌, ap, append_assoc}

-- the numbers of what was taken, and then of what is left
pub numbers_moved : {X : Type 0} (f : X → ℕ) (ns ms all : List ℕ) (x : X) (rest xs : List X) → ms ≡ ns ++ f x ∷ [] → xs ≡ x ∷ rest → ns ++ map f xs ≡ all → ms ++ map f rest ≡ all
numbers_moved f ns ms all x rest xs next is before =
    ap (λ (l : List ℕ). l ++ map f rest) next ∙ append_assoc ns (f x ∷ []) (map f rest) ∙ ap (λ l. ns ++ map f l) (sym is) ∙ before
