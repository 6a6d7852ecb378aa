-- Sums over all views, and how often a number is in a list.
use Rattle.std.proofs.Common.{◌≡◌, ℕ, zero, suc, ◌+◌, ◌*◌, ◌<◌, ◌≤◌, ◌≢◌, ◌⊎◌, inl, inr, ⊎_elim, List, [], ◌∷◌, ◌++◌, ◌||◌, length, set, max, sym, refl, ap, ◌∙◌, arith, eqb, eq-eqb, ne_eqb, Bool, true, false, true≢false, if◌then◌else◌}
use mathlib.Core.Option.{some, some-injective, some-ne-none}
use mathlib.Core.Logic.{dite}
use native.Mathlib.Decide.{ℕ_discrete}
use lib.ListN.{get_elem?}
use Rattle.book_turn.specs.Rule.{total}
use Rattle.book_turn.specs.NumberLists.{same, times, has, greatest, all_but_first, first_only, numbers_from}

module _ {A : Type 0} (f : A → ℕ) where
  pub total_set : (l : List A) (i : ℕ) (v w : A) → get_elem? l i ≡ some v → total f (set l i w) + f v ≡ total f l + f w
  total_set [] i v w e = absurd (some-ne-none v (sym e))
  total_set (x ∷ xs) zero v w e = let is : f x ≡ f v = ap f (some-injective x v e) in omega arith
  total_set (x ∷ xs) (suc i) v w e = let r = total_set xs i v w e in omega arith

  pub total_snoc : (l : List A) (a : A) → total f (l ++ a ∷ []) ≡ total f l + f a
  total_snoc [] a = omega arith
  total_snoc (x ∷ xs) a = let r = total_snoc xs a in omega arith

  pub total_at : (l : List A) (i : ℕ) (v : A) → get_elem? l i ≡ some v → f v ≤ total f l
  total_at [] i v e = absurd (some-ne-none v (sym e))
  total_at (x ∷ xs) zero v e = let is : f x ≡ f v = ap f (some-injective x v e) in omega arith
  total_at (x ∷ xs) (suc i) v e = let r = total_at xs i v e in omega arith

  pub total_two : (l : List A) (i j : ℕ) (u v : A) → i ≢ j → get_elem? l i ≡ some u → get_elem? l j ≡ some v → f u + f v ≤ total f l
  total_two [] i j u v n a b = absurd (some-ne-none u (sym a))
  total_two (x ∷ xs) zero zero u v n a b = absurd (n refl)
  total_two (x ∷ xs) zero (suc j) u v n a b = let is : f x ≡ f u = ap f (some-injective x u a) in let r = total_at xs j v b in omega arith
  total_two (x ∷ xs) (suc i) zero u v n a b = let is : f x ≡ f v = ap f (some-injective x v b) in let r = total_at xs i u a in omega arith
  total_two (x ∷ xs) (suc i) (suc j) u v n a b = let r = total_two xs i j u v (λ e. n (ap suc e)) a b in omega arith

  pub total_bounded : (g : A → ℕ) (l : List A) → ((i : ℕ) (v : A) → get_elem? l i ≡ some v → f v ≤ 1099511627776 * g v) → total f l ≤ 1099511627776 * total g l
  total_bounded g [] h = omega arith
  total_bounded g (x ∷ xs) h = let a : f x ≤ 1099511627776 * g x = h 0 x refl in let r = total_bounded g xs (λ i v e. h (suc i) v e) in omega arith

pub total_none : {A : Type 0} (f : A → ℕ) (l : List A) → ((j : ℕ) (u : A) → get_elem? l j ≡ some u → f u ≡ 0) → total f l ≡ 0
total_none f [] h = refl
total_none f (x ∷ xs) h = let z : f x ≡ 0 = h 0 x refl in let r = total_none f xs (λ j u k. h (suc j) u k) in omega arith

pub times_empty : (x : ℕ) (l : List ℕ) → length l ≡ 0 → times x l ≡ 0
times_empty x [] e = refl
times_empty x (y ∷ ys) e = absurd (omega arith)

pub total_only : {A : Type 0} (f : A → ℕ) (l : List A) (i : ℕ) (v : A) → get_elem? l i ≡ some v → ((j : ℕ) (u : A) → j ≢ i → get_elem? l j ≡ some u → f u ≡ 0) → total f l ≡ f v
total_only f [] i v e h = absurd (some-ne-none v (sym e))
total_only f (x ∷ xs) zero v e h = let is : f x ≡ f v = ap f (some-injective x v e) in let z = total_none f xs (λ j u k. h (suc j) u (λ same_place. absurd (omega arith)) k) in omega arith
total_only f (x ∷ xs) (suc i) v e h = let z : f x ≡ 0 = h 0 x (λ same_place. absurd (omega arith)) refl in let r = total_only f xs i v e (λ j u n k. h (suc j) u (λ same_place. n (omega arith)) k) in omega arith

pub same_one : (x y : ℕ) → x ≡ y → same x y ≡ 1
same_one x y e = ap (λ b. if b then 1 else 0) (eq-eqb x y e)

pub same_none : (x y : ℕ) → x ≢ y → same x y ≡ 0
same_none x y n = ap (λ b. if b then 1 else 0) (ne_eqb x y n)

pub times_append : (x : ℕ) (a b : List ℕ) → times x (a ++ b) ≡ times x a + times x b
times_append x [] b = omega arith
times_append x (y ∷ ys) b = let r = times_append x ys b in omega arith

pub has_times : (x : ℕ) (l : List ℕ) → has x l ≡ true → 1 ≤ times x l
has_times x [] e = absurd (true≢false (sym e))
has_times x (y ∷ ys) e = go (has_times x ys) (eqb x y) refl
  where
    go : (has x ys ≡ true → 1 ≤ times x ys) → (b : Bool) → eqb x y ≡ b → 1 ≤ same x y + times x ys
    go ih true h = let s : same x y ≡ 1 = ap (λ b. if b then 1 else 0) h in omega arith
    go ih false h = let r : 1 ≤ times x ys = ih (sym (ap (λ b. b || has x ys) h) ∙ e) in omega arith

pub times_has : (x : ℕ) (l : List ℕ) → 1 ≤ times x l → has x l ≡ true
times_has x [] e = absurd (omega arith)
times_has x (y ∷ ys) e = go (times_has x ys) (eqb x y) refl
  where
    go : (1 ≤ times x ys → has x ys ≡ true) → (b : Bool) → eqb x y ≡ b → (eqb x y || has x ys) ≡ true
    go ih true h = ap (λ b. b || has x ys) h
    go ih false h = let s : same x y ≡ 0 = ap (λ b. if b then 1 else 0) h in let r : 1 ≤ times x ys = omega arith in ap (λ b. b || has x ys) h ∙ ih r

pub cut_times : (x : ℕ) (l : List ℕ) → times x (all_but_first l) + times x (first_only l) ≡ times x l
cut_times x [] = omega arith
cut_times x (p ∷ ps) = omega arith

pub cut_length : (l : List ℕ) → length (all_but_first l) + length (first_only l) ≡ length l
cut_length [] = omega arith
cut_length (p ∷ ps) = omega arith

pub in_first : (l : List ℕ) (x : ℕ) → has x (first_only l) ≡ true → has x l ≡ true
in_first l x e = let k = cut_times x l in let h = has_times x (first_only l) e in times_has x l (omega arith)

pub in_others : (l : List ℕ) (x : ℕ) → has x (all_but_first l) ≡ true → has x l ≡ true
in_others l x e = let k = cut_times x l in let h = has_times x (all_but_first l) e in times_has x l (omega arith)

pub greatest_append : (a b : List ℕ) → greatest (a ++ b) ≡ max (greatest a) (greatest b)
greatest_append [] b = omega arith
greatest_append (x ∷ xs) b = let r = greatest_append xs b in omega arith

pub numbers_length : (a n : ℕ) → length (numbers_from a n) ≡ n
numbers_length a zero = refl
numbers_length a (suc n) = ap suc (numbers_length (suc a) n)

pub numbers_out : (x a n : ℕ) → (x < a) ⊎ (a + n ≤ x) → times x (numbers_from a n) ≡ 0
numbers_out x a zero h = refl
numbers_out x a (suc n) h =
    let apart : x ≢ a = ⊎_elim (λ l e. absurd (omega arith)) (λ l e. absurd (omega arith)) h in
    let r = numbers_out x (suc a) n (⊎_elim (λ l. inl (omega arith)) (λ l. inr (omega arith)) h) in let z = same_none x a apart in omega arith

pub numbers_in : (x a n : ℕ) → a ≤ x → x < a + n → times x (numbers_from a n) ≡ 1
numbers_in x a zero l k = absurd (omega arith)
numbers_in x a (suc n) l k = dite (ℕ_discrete x a)
    (λ e. let one = same_one x a e in let z = numbers_out x (suc a) n (inl (omega arith)) in omega arith)
    (λ e. let no = same_none x a e in let r = numbers_in x (suc a) n (omega arith) (omega arith) in omega arith)

pub has_first : (ps qs : List ℕ) (x : ℕ) → has x ps ≡ true → has x (ps ++ qs) ≡ true
has_first ps qs x e = let h = has_times x ps e in let k = times_append x ps qs in times_has x (ps ++ qs) (omega arith)

pub has_last : (ps qs : List ℕ) (x : ℕ) → has x qs ≡ true → has x (ps ++ qs) ≡ true
has_last ps qs x e = let h = has_times x qs e in let k = times_append x ps qs in times_has x (ps ++ qs) (omega arith)
