-- Lists of one length whose items go with each other, pair by pair.
use Rattle.std.proofs.Common.{◌≡◌, ℕ, ◌+◌, ◌<◌, List, [], ◌∷◌, ◌++◌, length, take, get_or, refl, sym, ◌∙◌, ap}
use Rattle.std.specs.List.{AllZip}
use Rattle.std.proofs.lemmas.List.{take_more}

pub zip_push : {A B : Type 0} (R : A → B → Type 0) (xs : List A) (ys : List B) (x : A) (y : B)
    → AllZip R xs ys → R x y → AllZip R (xs ++ x ∷ []) (ys ++ y ∷ [])
zip_push R [] [] x y are is = (is, tt)
zip_push R [] (v ∷ ys) x y are is = absurd are
zip_push R (u ∷ xs) [] x y are is = absurd are
zip_push R (u ∷ xs) (v ∷ ys) x y are is = (are.0, zip_push R xs ys x y are.1 is)

-- one more place
pub zip_more : {A B : Type 0} (R : A → B → Type 0) (xs : List A) (i : ℕ) (old : List B) (x : A) (y : B)
    → i < length xs → x ≡ get_or xs i x → AllZip R (take i xs) old → R x y → AllZip R (take (i + 1) xs) (old ++ y ∷ [])
zip_more R xs i old x y lt at are is =
    let more : take (i + 1) xs ≡ take i xs ++ x ∷ [] = take_more xs i x lt ∙ ap (λ z. take i xs ++ z ∷ []) (sym at) in
    rw more (zip_push R (take i xs) old x y are is)

-- where each item goes with one alone, so do the lists
pub zip_same : {A B : Type 0} (R : A → B → Type 0) (one : (x : A) (y z : B) → R x y → R x z → y ≡ z) (xs : List A) (ys zs : List B)
    → AllZip R xs ys → AllZip R xs zs → ys ≡ zs
zip_same R one [] [] [] are be = refl
zip_same R one [] [] (z ∷ zs) are be = absurd be
zip_same R one [] (y ∷ ys) zs are be = absurd are
zip_same R one (x ∷ xs) [] zs are be = absurd are
zip_same R one (x ∷ xs) (y ∷ ys) [] are be = absurd be
zip_same R one (x ∷ xs) (y ∷ ys) (z ∷ zs) are be = rw (one x y z are.0 be.0, zip_same R one xs ys zs are.1 be.1) refl
