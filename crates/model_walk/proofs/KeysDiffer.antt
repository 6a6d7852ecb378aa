-- What differs by its keys.
use Rattle.std.proofs.Common.{◌≢◌, ℕ, ◌<◌, List, length, map, get_or, sym, ◌∙◌, arith}
use Rattle.std.specs.List.{AllPairs}
use Rattle.std.proofs.lemmas.List.{get_or-map, length-map}

pub from_keys : {X : Type 0} (key : X → List ℕ) (xs : List X) → AllPairs (λ a b. a ≢ b) (map key xs) → AllPairs (λ x y. key x ≢ key y) xs
from_keys key xs h i j d lt within same =
    let m : j < length (map key xs) = rw (length-map xs key) within in
    let n : i < length xs = omega arith in
    h i j (key d) lt m (get_or-map key xs i d (key d) n ∙ same ∙ sym (get_or-map key xs j d (key d) within))
