-- Lists of one length whose items go with each other, pair by pair.
use Rattle.std.proofs.Common.{◌≡◌, ℕ, zero, suc, ◌<◌, List, [], ◌∷◌, ◌++◌, length, get_or, refl, ap, subst, arith}
use Rattle.std.specs.List.{AllZip, All, flat_map}
use Rattle.std.proofs.lemmas.List.Elements.{All-nil, All-cons}

pub zip_push : {A B : Type 0} (R : A → B → Type 0) (xs : List A) (ys : List B) (x : A) (y : B) → AllZip R xs ys → R x y → AllZip R (xs ++ x ∷ []) (ys ++ y ∷ [])
zip_push R [] [] x y are is = (is, tt)
zip_push R [] (v ∷ ys) x y are is = absurd are
zip_push R (u ∷ xs) [] x y are is = absurd are
zip_push R (u ∷ xs) (v ∷ ys) x y are is = (are.0, zip_push R xs ys x y are.1 is)

pub zip_length : {A B : Type 0} (R : A → B → Type 0) (xs : List A) (ys : List B) → AllZip R xs ys → length xs ≡ length ys
zip_length R [] [] are = refl
zip_length R [] (y ∷ ys) are = absurd are
zip_length R (x ∷ xs) [] are = absurd are
zip_length R (x ∷ xs) (y ∷ ys) are = ap suc (zip_length R xs ys are.1)

-- where each item goes with one alone, so do the lists
pub zip_same : {A B : Type 0} (R : A → B → Type 0) (one : (x : A) (y z : B) → R x y → R x z → y ≡ z) (xs : List A) (ys zs : List B) → AllZip R xs ys → AllZip R xs zs → ys ≡ zs
zip_same R one [] [] [] are be = refl
zip_same R one [] [] (z ∷ zs) are be = absurd be
zip_same R one [] (y ∷ ys) zs are be = absurd are
zip_same R one (x ∷ xs) [] zs are be = absurd are
zip_same R one (x ∷ xs) (y ∷ ys) [] are be = absurd be
zip_same R one (x ∷ xs) (y ∷ ys) (z ∷ zs) are be = rw (one x y z are.0 be.0, zip_same R one xs ys zs are.1 be.1) refl

pub zip_all : {A B : Type 0} (R : A → B → Type 0) (P : B → Type 0) (each : (x : A) (y : B) → R x y → P y) (xs : List A) (ys : List B) → AllZip R xs ys → All P ys
zip_all R P each [] [] are = All-nil P
zip_all R P each [] (y ∷ ys) are = absurd are
zip_all R P each (x ∷ xs) [] are = absurd are
zip_all R P each (x ∷ xs) (y ∷ ys) are = All-cons P y ys (each x y are.0) (zip_all R P each xs ys are.1)

pub zip_at : {A B : Type 0} (R : A → B → Type 0) (xs : List A) (ys : List B) (k : ℕ) (x : A) → k < length xs → get_or xs k x ≡ x → AllZip R xs ys → (y : B) × R x y
zip_at R [] ys k x lt at are = absurd (omega (arith, lt))
zip_at R (u ∷ xs) [] k x lt at are = absurd are
zip_at R (u ∷ xs) (v ∷ ys) zero x lt at are = (v, subst (λ z. R z v) at are.0)
zip_at R (u ∷ xs) (v ∷ ys) (suc k) x lt at are = zip_at R xs ys k x (omega (arith, lt)) at are.1

pub zip_append : {A B : Type 0} (R : A → B → Type 0) (xs ys : List A) (us vs : List B) → AllZip R xs us → AllZip R ys vs → AllZip R (xs ++ ys) (us ++ vs)
zip_append R [] ys [] vs first second = second
zip_append R [] ys (u ∷ us) vs first second = absurd first
zip_append R (x ∷ xs) ys [] vs first second = absurd first
zip_append R (x ∷ xs) ys (u ∷ us) vs first second = (first.0, zip_append R xs ys us vs first.1 second)

-- lists of lists, joined end to end
pub zip_flat : {A B : Type 0} (R : A → B → Type 0) (xss : List (List A)) (uss : List (List B)) → AllZip (AllZip R) xss uss → AllZip R (flat_map (λ (xs : List A). xs) xss) (flat_map (λ (us : List B). us) uss)
zip_flat R [] [] are = tt
zip_flat R [] (u ∷ uss) are = absurd are
zip_flat R (x ∷ xss) [] are = absurd are
zip_flat {A} {B} R (x ∷ xss) (u ∷ uss) are = zip_append R x (flat_map (λ (xs : List A). xs) xss) u (flat_map (λ (us : List B). us) uss) are.0 (zip_flat R xss uss are.1)
