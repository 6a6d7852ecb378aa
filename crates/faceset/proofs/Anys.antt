-- One of the items of a list that was joined, or made item by item.
use Rattle.std.proofs.Common.{◌≡◌, ℕ, zero, suc, ◌<◌, List, [], ◌∷◌, ◌++◌, length, map, get_or, refl, sym, subst, ◌∙◌, arith}
use Rattle.std.specs.List.{All, Any, flat_map}
use Rattle.std.proofs.lemmas.List.{get_or_default, get_or_append_left, length-append}

pub any_left : {X : Type 0} (P : X → Type 0) (xs ys : List X) → Any P xs → Any P (xs ++ ys)
any_left P [] ys any = absurd (let lt = any.2 in omega (arith, lt))
any_left P (x ∷ xs) ys any = from P (x ∷ xs) ys any.0 any.1 any.2 any.3 any.4
  where
    from : {X : Type 0} (P : X → Type 0) (xs ys : List X) (k : ℕ) (y : X) → k < length xs → get_or xs k y ≡ y → P y → Any P (xs ++ ys)
    from P xs ys k y lt e h = (k, y, (let l = length-append xs ys in omega (arith, l, lt)), get_or_append_left xs ys y k lt ∙ e, h)

pub any_right : {X : Type 0} (P : X → Type 0) (xs ys : List X) → Any P ys → Any P (xs ++ ys)
any_right P [] ys any = any
any_right P (x ∷ xs) ys any = let r = any_right P xs ys any in (suc r.0, r.1, (let lt = r.2 in omega (arith, lt)), r.3, r.4)

pub all_not : {X : Type 0} (P : X → Type 0) (xs : List X) → (Any P xs → ⊥) → All (λ x. P x → ⊥) xs
all_not P xs none = λ k d lt h. none (k, get_or xs k d, lt, get_or_default xs k (get_or xs k d) d lt, h)

pub not_any : {X : Type 0} (P : X → Type 0) (xs : List X) → All (λ x. P x → ⊥) xs → Any P xs → ⊥
not_any P xs none any = none any.0 any.1 any.2 (subst P (sym any.3) any.4)

pub any_unmap : {X Y : Type 0} (f : X → Y) (P : Y → Type 0) (xs : List X) → Any P (map f xs) → Any (λ x. P (f x)) xs
any_unmap f P xs any = from f P xs any.0 any.1 any.2 any.3 any.4
  where
    from : {X Y : Type 0} (f : X → Y) (P : Y → Type 0) (xs : List X) (k : ℕ) (y : Y) → k < length (map f xs) → get_or (map f xs) k y ≡ y → P y → Any (λ x. P (f x)) xs
    from f P [] k y lt e h = absurd (omega (arith, lt))
    from f P (x ∷ xs) zero y lt e h = (0, x, omega arith, refl, subst P (sym e) h)
    from f P (x ∷ xs) (suc k) y lt e h = let r = from f P xs k y (omega (arith, lt)) e h in (suc r.0, r.1, (let l = r.2 in omega (arith, l)), r.3, r.4)

pub any_mapped : {X Y : Type 0} (f : X → Y) (P : Y → Type 0) (xs : List X) (i : ℕ) (x : X) → i < length xs → x ≡ get_or xs i x → P (f x) → Any P (map f xs)
any_mapped f P [] i x lt at h = absurd (omega (arith, lt))
any_mapped f P (y ∷ xs) zero x lt at h = (0, f y, omega arith, refl, subst (λ z. P (f z)) at h)
any_mapped f P (y ∷ xs) (suc i) x lt at h = let r = any_mapped f P xs i x (omega (arith, lt)) at h in (suc r.0, r.1, (let l = r.2 in omega (arith, l)), r.3, r.4)

-- .. of lists joined end to end
pub any_flat : {X : Type 0} (P : X → Type 0) (xss : List (List X)) → Any (Any P) xss → Any P (flat_map (λ (xs : List X). xs) xss)
any_flat P [] any = absurd (let lt = any.2 in omega (arith, lt))
any_flat {X} P (xs ∷ xss) any = from (any_flat P xss) any.0 any.1 any.2 any.3 any.4
  where
    from : (Any (Any P) xss → Any P (flat_map (λ (xs : List X). xs) xss)) → (k : ℕ) (ys : List X) → k < length (xs ∷ xss) → get_or (xs ∷ xss) k ys ≡ ys → Any P ys → Any P (xs ++ flat_map (λ (xs : List X). xs) xss)
    from rest zero ys lt e h = any_left P xs (flat_map (λ (xs : List X). xs) xss) (subst (Any P) (sym e) h)
    from rest (suc k) ys lt e h = any_right P xs (flat_map (λ (xs : List X). xs) xss) (rest (k, ys, omega (arith, lt), e, h))
