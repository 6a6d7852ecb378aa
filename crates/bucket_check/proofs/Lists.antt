-- Lists of exactly what has a property, in order: there is one.
use Rattle.std.proofs.Common.{◌≡◌, ℕ, zero, suc, ◌<◌, ◌⊎◌, inl, inr, Bool, true, false, cond, List, [], ◌∷◌, ◌++◌, length, get_or, filter, true≢false, refl, sym, ap₂, subst, arith}
use Rattle.std.specs.List.{AllPairs, All, Contains, flat_map}
use Rattle.std.proofs.lemmas.List.Elements.{All-contains, All-filter, All-head, All-tail, filter_passes, Contains-get_or}
use Rattle.std.proofs.lemmas.List.Kept.{AllPairs-filter}

-- all that have the property, each once, in order
pub record Lists {X : Type 0} (R : X → X → Type 0) (P : X → Type 0) (xs : List X) : Type 0 where
  pub rising : AllPairs R xs
  pub each : (x : X) → Contains xs x → P x
  pub all : (x : X) → P x → Contains xs x

first_in : {X : Type 0} (x : X) (xs : List X) → Contains (x ∷ xs) x
first_in x xs = (0, omega arith, refl)

pub next_in : {X : Type 0} (y : X) (ys : List X) (x : X) → Contains ys x → Contains (y ∷ ys) x
next_in y ys x c = (suc c.0, omega (arith, c.1), c.2)

none_in : {X : Type 0} (x : X) → Contains [] x → ⊥
none_in x c = omega (arith, c.1)

-- it is the first, or one of the others
by_place : {X : Type 0} (y : X) (ys : List X) (x : X) (i : ℕ) → i < length (y ∷ ys) → get_or (y ∷ ys) i x ≡ x → (y ≡ x) ⊎ Contains ys x
by_place y ys x zero h e = inl e
by_place y ys x (suc i) h e = inr (i, omega arith, e)

pub head_or : {X : Type 0} (y : X) (ys : List X) (x : X) → Contains (y ∷ ys) x → (y ≡ x) ⊎ Contains ys x
head_or y ys x c = by_place y ys x c.0 c.1 c.2

kept : {X : Type 0} (b : Bool) (y : X) (ys : List X) (x : X) → b ≡ true → y ≡ x → Contains (cond b (y ∷ ys) ys) x
kept true y ys x e f = subst (Contains (y ∷ ys)) f (first_in y ys)
kept false y ys x e f = absurd (true≢false (sym e))

kept_behind : {X : Type 0} (b : Bool) (y : X) (ys : List X) (x : X) → Contains ys x → Contains (cond b (y ∷ ys) ys) x
kept_behind true y ys x c = next_in y ys x c
kept_behind false y ys x c = c

passed_in : {X : Type 0} (t : X → Bool) (y : X) (ys : List X) (x : X) → t x ≡ true → (Contains ys x → Contains (filter t ys) x) → (y ≡ x) ⊎ Contains ys x → Contains (cond (t y) (y ∷ filter t ys) (filter t ys)) x
passed_in t y ys x e on (inl f) = kept (t y) y (filter t ys) x (subst (λ z. t z ≡ true) (sym f) e) f
passed_in t y ys x e on (inr c) = kept_behind (t y) y (filter t ys) x (on c)

contains_filter : {X : Type 0} (t : X → Bool) (xs : List X) (x : X) → t x ≡ true → Contains xs x → Contains (filter t xs) x
contains_filter t [] x e c = c
contains_filter t (y ∷ ys) x e c = passed_in t y ys x e (λ d. contains_filter t ys x e d) (head_or y ys x c)

pub all_have : {X : Type 0} (R : X → X → Type 0) (P : X → Type 0) (xs : List X) → Lists R P xs → All P xs
all_have R P xs l i d h = l.each (get_or xs i d) (Contains-get_or xs i d h)

-- those of them that pass a test
pub lists_filter : {X : Type 0} (R : X → X → Type 0) (P : X → Type 0) (t : X → Bool) (xs : List X) → Lists R P xs → Lists R (λ x. P x × (t x ≡ true)) (filter t xs)
lists_filter R P t xs l = record {
  rising = AllPairs-filter R t xs l.rising;
  each = λ x c. (All-contains P (filter t xs) x (All-filter t P xs (all_have R P xs l)) c, All-contains (λ y. t y ≡ true) (filter t xs) x (filter_passes t xs) c);
  all = λ x h. contains_filter t xs x h.1 (l.all x h.0);
}

module _ {X : Type 0} (R : X → X → Type 0) (once : (x y : X) → R x y → R y x → ⊥) where
  itself : (x p : X) → x ≡ p → R x p → ⊥
  itself x p e r = let own : R p p = subst (λ z. R z p) e r in once p p own own

  behind : (P : X → Type 0) (x : X) (xs : List X) → Lists R P (x ∷ xs) → Lists R (λ p. P p × R x p) xs
  behind P x xs l = record {
    rising = λ i j d below within. l.rising (suc i) (suc j) d (omega arith) (omega arith);
    each = λ p c. (l.each p (next_in x xs p c), subst (R x) c.2 (l.rising zero (suc c.0) p (omega arith) (omega (arith, c.1))));
    all = λ p h. other p h.1 (head_or x xs p (l.all p h.0));
  }
    where
      other : (p : X) → R x p → (x ≡ p) ⊎ Contains xs p → Contains xs p
      other p r (inl e) = absurd (itself x p e r)
      other p r (inr c) = c

  below : (P : X → Type 0) (y : X) (ys : List X) (x : X) → Lists R P (y ∷ ys) → Contains ys x → R y x
  below P y ys x l c = subst (R y) c.2 (l.rising zero (suc c.0) x (omega arith) (omega (arith, c.1)))

  same_first : (P : X → Type 0) (x : X) (xs : List X) (y : X) (ys : List X) → Lists R P (x ∷ xs) → Lists R P (y ∷ ys) → (y ≡ x) ⊎ Contains ys x → (x ≡ y) ⊎ Contains xs y → x ≡ y
  same_first P x xs y ys l k (inl e) d = sym e
  same_first P x xs y ys l k (inr c) (inl e) = e
  same_first P x xs y ys l k (inr c) (inr d) = absurd (once y x (below P y ys x k c) (below P x xs y l d))

  -- there is one such list
  pub lists_one : (P : X → Type 0) (xs ys : List X) → Lists R P xs → Lists R P ys → xs ≡ ys
  lists_one P [] [] l k = refl
  lists_one P [] (y ∷ ys) l k = absurd (none_in y (l.all y (k.each y (first_in y ys))))
  lists_one P (x ∷ xs) [] l k = absurd (none_in x (k.all x (l.each x (first_in x xs))))
  lists_one P (x ∷ xs) (y ∷ ys) l k =
      let e : x ≡ y = same_first P x xs y ys l k (head_or y ys x (k.all x (l.each x (first_in x xs)))) (head_or x xs y (l.all y (k.each y (first_in y ys)))) in
      ap₂ (λ z zs. z ∷ zs) e (lists_one (λ p. P p × R x p) xs ys (behind P x xs l) (subst (λ z. Lists R (λ p. P p × R z p) ys) (sym e) (behind P y ys k)))

-- functions that agree at each item make the same lists
pub flat_same : {X Y : Type 0} (f g : X → List Y) (xs : List X) → All (λ x. f x ≡ g x) xs → flat_map f xs ≡ flat_map g xs
flat_same f g [] h = refl
flat_same f g (x ∷ xs) h = ap₂ (λ a b. a ++ b) (All-head (λ y. f y ≡ g y) x xs h) (flat_same f g xs (All-tail (λ y. f y ≡ g y) x xs h))
