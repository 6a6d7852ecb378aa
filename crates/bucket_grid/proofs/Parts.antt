-- Lists made for each number below a bound: what holds of each item, of some, and of each pair.
use Rattle.std.proofs.Common.{◌≡◌, ℕ, zero, suc, ◌+◌, ◌<◌, ◌⊎◌, inl, inr, Bool, true, false, ◌&&◌, cond, List, [], ◌∷◌, ◌++◌, length, filter, refl, sym, ap, subst, arith, ◌∙◌, append-nil}
use Rattle.std.specs.List.{All, Any, AllPairs, flat_map}
use Rattle.std.proofs.lemmas.Bool.{cases_eq}
use Rattle.std.proofs.lemmas.List.{length-append, get_or_append_left, get_or-append-add}
use Rattle.std.proofs.lemmas.List.Concat.{flat_map-append}
use Rattle.std.proofs.lemmas.List.Kept.{AllPairs-cons}
use Rattle.std.proofs.lemmas.List.Elements.{All-append, All-nil, All-head, All-tail, All-push, All-weaker}
use Rattle.bucket_grid.specs.BucketTable.{upto}

pub flat_suc : {A : Type 0} (f : ℕ → List A) (n : ℕ) → flat_map f (upto (suc n)) ≡ flat_map f (upto n) ++ f n
flat_suc f n = flat_map-append f (upto n) (n ∷ []) ∙ ap (λ l. flat_map f (upto n) ++ l) (append-nil (f n))

pub flat_all : {A : Type 0} (P : A → Type 0) (f : ℕ → List A) (n : ℕ) → ((k : ℕ) → k < n → All P (f k)) → All P (flat_map f (upto n))
flat_all P f zero h = All-nil P
flat_all P f (suc n) h = subst (All P) (sym (flat_suc f n)) (All-append P (flat_map f (upto n)) (f n) (flat_all P f n (λ k lt. h k (omega arith))) (h n (omega arith)))

any_left : {A : Type 0} (P : A → Type 0) (xs ys : List A) → Any P xs → Any P (xs ++ ys)
any_left P xs ys h = (h.0, h.1, omega (arith, h.2, length-append xs ys), get_or_append_left xs ys h.1 h.0 h.2 ∙ h.3, h.4)

any_right : {A : Type 0} (P : A → Type 0) (xs ys : List A) → Any P ys → Any P (xs ++ ys)
any_right P xs ys h = (length xs + h.0, h.1, omega (arith, h.2, length-append xs ys), get_or-append-add xs ys h.0 h.1 ∙ h.3, h.4)

any_here : {A : Type 0} (P : A → Type 0) (f : ℕ → List A) (n k : ℕ) → k < suc n → Any P (f k) → (k < n → Any P (flat_map f (upto n))) → (k ≡ n) ⊎ (k ≡ n → ⊥) → Any P (flat_map f (upto n) ++ f n)
any_here P f n k lt h before (inl e) = any_right P (flat_map f (upto n)) (f n) (subst (λ m. Any P (f m)) e h)
any_here P f n k lt h before (inr ne) = any_left P (flat_map f (upto n)) (f n) (before (omega (arith, ne)))

pub flat_any : {A : Type 0} (P : A → Type 0) (f : ℕ → List A) (n k : ℕ) → k < n → Any P (f k) → Any P (flat_map f (upto n))
flat_any P f zero k lt h = absurd (omega arith)
flat_any P f (suc n) k lt h = subst (Any P) (sym (flat_suc f n)) (any_here P f n k lt h (λ l. flat_any P f n k l h) (cases_eq k n))

pairs_append : {X : Type 0} (R : X → X → Type 0) (xs ys : List X) → AllPairs R xs → AllPairs R ys → All (λ x. All (R x) ys) xs → AllPairs R (xs ++ ys)
pairs_append R [] ys h k across = k
pairs_append R (x ∷ xs) ys h k across =
    AllPairs-cons R x (xs ++ ys)
    (All-append (R x) xs ys (λ i d within. h zero (suc i) d (omega arith) (omega arith)) (All-head (λ y. All (R y) ys) x xs across))
    (pairs_append R xs ys (λ i j d below within. h (suc i) (suc j) d (omega arith) (omega arith)) k (All-tail (λ y. All (R y) ys) x xs across))

-- lists whose items are marked by their number are in order, if each is
pub flat_pairs : {A : Type 0} (R : A → A → Type 0) (Q : ℕ → A → Type 0) (f : ℕ → List A) (n : ℕ) → ((j k : ℕ) (x y : A) → j < k → Q j x → Q k y → R x y) → ((k : ℕ) → All (Q k) (f k)) → ((k : ℕ) → k < n → AllPairs R (f k)) → AllPairs R (flat_map f (upto n))
flat_pairs R Q f zero rises marked h = λ i j d below within. absurd (omega (arith, within))
flat_pairs R Q f (suc n) rises marked h =
    subst (AllPairs R) (sym (flat_suc f n))
    (pairs_append R (flat_map f (upto n)) (f n) (flat_pairs R Q f n rises marked (λ k lt. h k (omega arith))) (h n (omega arith))
    (flat_all (λ x. All (R x) (f n)) f n (λ j lt. All-weaker (Q j) (λ x. All (R x) (f n)) (λ x q. All-weaker (Q n) (R x) (λ y r. rises j n x y lt q r) (f n) (marked n)) (f j) (marked j))))

pub all_upto : (P : ℕ → Type 0) (n : ℕ) → ((i : ℕ) → i < n → P i) → All P (upto n)
all_upto P zero h = All-nil P
all_upto P (suc n) h = All-push P (upto n) n (all_upto P n (λ i lt. h i (omega arith))) (h n (omega arith))

cond_same : {A : Type 0} (b c : Bool) (x : A) (xs ys : List A) → b ≡ c → xs ≡ ys → cond b (x ∷ xs) xs ≡ cond c (x ∷ ys) ys
cond_same b c x xs ys e f = ap (λ t. cond t (x ∷ xs) xs) e ∙ ap (λ l. cond c (x ∷ l) l) f

-- tests that agree at each item keep the same
pub filter_on : {A : Type 0} (p q : A → Bool) (xs : List A) → All (λ x. p x ≡ q x) xs → filter p xs ≡ filter q xs
filter_on p q [] h = refl
filter_on p q (x ∷ xs) h = cond_same (p x) (q x) x (filter p xs) (filter q xs) (All-head (λ y. p y ≡ q y) x xs h) (filter_on p q xs (All-tail (λ y. p y ≡ q y) x xs h))

-- a filter of a filter
filter_both : {A : Type 0} (p q : A → Bool) (x : A) (xs : List A) (b : Bool) → b ≡ q x → filter p xs ≡ filter p xs → filter p (cond b (x ∷ filter q xs) (filter q xs)) ≡ cond (b && p x) (x ∷ filter p (filter q xs)) (filter p (filter q xs))
filter_both p q x xs true e h = refl
filter_both p q x xs false e h = refl

pub filter-filter : {A : Type 0} (p q : A → Bool) (xs : List A) → filter p (filter q xs) ≡ filter (λ x. q x && p x) xs
filter-filter p q [] = refl
filter-filter p q (x ∷ xs) = filter_both p q x xs (q x) refl refl ∙ cond_same (q x && p x) (q x && p x) x _ _ refl (filter-filter p q xs)
