-- How pairs are added to a list.
use Rattle.std.proofs.Common.{◌≡◌, ℕ, ◌+◌, ◌<◌, ◌≤◌, ◌⊎◌, inl, inr, List, [], ◌∷◌, ◌++◌, length, get_or, Contains, Any, sym, ap, ◌∙◌, subst, arith}
use Rattle.std.proofs.lemmas.List.{get_or_default}
use Rattle.std.proofs.lemmas.List.Elements.{Contains-append_left, Contains-push, Contains-push_cases}
use Rattle.std.specs.List.Sorted.{IsPermutation}
use Rattle.std.proofs.lemmas.List.Sorted.{Contains-permutation, IsPermutation-sym}
use Rattle.p21_values.proofs.Turns.{one_more}
use Rattle.spatial_tree.specs.declared.relations.Link.{Link}
use Rattle.spatial_tree.specs.inner.Onlys.{Adds, ListsLinks, link}

-- it holds of one of the first
pub record AnyBefore {X : Type 0} (P : X → Type 0) (xs : List X) (i : ℕ) : Type 0 where
  pub place : ℕ
  pub element : X
  pub before : place < i
  pub within : place < length xs
  pub is : get_or xs place element ≡ element
  pub holds : P element

pub before_more : {X : Type 0} (P : X → Type 0) (xs : List X) (i : ℕ) (y : X) → i < length xs → y ≡ get_or xs i y → AnyBefore P xs (i + 1) → AnyBefore P xs i ⊎ P y
before_more P xs i y lt e a = elim (side a.place i a.before) [
  | inl l ↦ inl (record { place = a.place; element = a.element; before = l; within = a.within; is = a.is; holds = a.holds })
  | inr s ↦ inr (subst P (sym (e ∙ get_or_default xs i y a.element lt ∙ ap (λ k. get_or xs k a.element) (sym s) ∙ a.is)) a.holds)
]
  where
    side : (k i : ℕ) → k < i + 1 → (k < i) ⊎ (k ≡ i)
    side k i l = grind arith

pub before_kept : {X : Type 0} (P : X → Type 0) (xs : List X) (i : ℕ) → AnyBefore P xs i → AnyBefore P xs (i + 1)
before_kept P xs i a = record { place = a.place; element = a.element; before = (let b = a.before in omega arith); within = a.within; is = a.is; holds = a.holds }

pub before_here : {X : Type 0} (P : X → Type 0) (xs : List X) (i : ℕ) (y : X) → i < length xs → y ≡ get_or xs i y → P y → AnyBefore P xs (i + 1)
before_here P xs i y lt e h = record { place = i; element = y; before = omega arith; within = lt; is = sym e; holds = h }

pub any_from_before : {X : Type 0} (P : X → Type 0) (xs : List X) (i : ℕ) → AnyBefore P xs i → Any P xs
any_from_before P xs i a = (a.place, a.element, a.within, a.is, a.holds)

pub before_from_any : {X : Type 0} (P : X → Type 0) (xs : List X) (i : ℕ) → length xs ≤ i → Any P xs → AnyBefore P xs i
before_from_any P xs i l a = record { place = a.0; element = a.1; before = (let b = a.2 in omega arith); within = a.2; is = a.3; holds = a.4 }

pub nothing_added : (P : ℕ → ℕ → Type 0) (xs : List Link) → ((o u : ℕ) → P o u → ⊥) → Adds P xs xs
nothing_added P xs n = record { sound = λ o u c. inl c; keeps = λ o u c. c; all = λ o u h. absurd (n o u h) }

pub one_added : (P : ℕ → ℕ → Type 0) (xs ys : List Link) (o u : ℕ) → ys ≡ xs ++ link o u ∷ [] → P o u → ((a b : ℕ) → P a b → (o ≡ a) × (u ≡ b)) → Adds P xs ys
one_added P xs ys o u e h only = record {
  sound = λ a b c. elim (Contains-push_cases xs (link o u) (link a b) (subst (λ l. Contains l (link a b)) e c)) [
    | inl l ↦ inl l
    | inr s ↦ inr (subst (λ n. P a n) (ap (λ (l : Link). l.above) s) (subst (λ n. P n u) (ap (λ (l : Link). l.object) s) h))
  ];
  keeps = λ a b c. subst (λ l. Contains l (link a b)) (sym e) (Contains-append_left xs (link o u ∷ []) (link a b) c);
  all = λ a b g. (let s = only a b g in
      subst (λ n. Contains ys (link a n)) s.1 (subst (λ n. Contains ys (link n u)) s.0 (subst (λ l. Contains l (link o u)) (sym e) (Contains-push xs (link o u)))));
}

-- one thing more of those that a list names is looked at
then_added : {X : Type 0} (At : X → ℕ → ℕ → Type 0) (items : List X) (i : ℕ) (y : X) (xs ys zs : List Link) → i < length items → y ≡ get_or items i y
    → Adds (λ o u. AnyBefore (λ x. At x o u) items i) xs ys → Adds (At y) ys zs → Adds (λ o u. AnyBefore (λ x. At x o u) items (i + 1)) xs zs
then_added At items i y xs ys zs lt e p q = record {
  sound = λ o u c. elim (q.sound o u c) [
    | inl l ↦ elim (p.sound o u l) [ inl m ↦ inl m | inr b ↦ inr (before_kept (λ x. At x o u) items i b) ]
    | inr h ↦ inr (before_here (λ x. At x o u) items i y lt e h)
  ];
  keeps = λ o u c. q.keeps o u (p.keeps o u c);
  all = λ o u a. elim (before_more (λ x. At x o u) items i y lt e a) [
    | inl b ↦ q.keeps o u (p.all o u b)
    | inr h ↦ q.all o u h
  ];
}

-- the same in a loop over what is given one by one
pub then_given : {X : Type 0} (At : X → ℕ → ℕ → Type 0) (items given : List X) (y : X) (xs ys zs : List Link) → (length given < length items) × (y ≡ get_or items (length given) y)
    → Adds (λ o u. AnyBefore (λ x. At x o u) items (length given)) xs ys → Adds (At y) ys zs → Adds (λ o u. AnyBefore (λ x. At x o u) items (length (given ++ y ∷ []))) xs zs
then_given At items given y xs ys zs at p q =
    subst (λ n. Adds (λ o u. AnyBefore (λ x. At x o u) items n) xs zs) (one_more given y) (then_added At items (length given) y xs ys zs at.0 at.1 p q)

pub all_added : {X : Type 0} (At : X → ℕ → ℕ → Type 0) (items : List X) (i : ℕ) (xs ys : List Link) → length items ≤ i → Adds (λ o u. AnyBefore (λ x. At x o u) items i) xs ys → Adds (λ o u. Any (λ x. At x o u) items) xs ys
all_added At items i xs ys l p = record {
  sound = λ o u c. elim (p.sound o u c) [ inl m ↦ inl m | inr b ↦ inr (any_from_before (λ x. At x o u) items i b) ];
  keeps = p.keeps;
  all = λ o u a. p.all o u (before_from_any (λ x. At x o u) items i l a);
}

pub added_to_none : (P : ℕ → ℕ → Type 0) (xs ys zs : List Link) → xs ≡ [] → Adds P xs ys → IsPermutation ys zs → ListsLinks P zs
added_to_none P xs ys zs e a p = record {
  sound = λ o u c. elim (a.sound o u (Contains-permutation zs ys (link o u) (IsPermutation-sym ys zs p) c)) [
    | inl h ↦ (let n = subst (λ l. Contains l (link o u)) e h in absurd (let k = n.1 in omega arith))
    | inr h ↦ h
  ];
  all = λ o u h. Contains-permutation ys zs (link o u) p (a.all o u h);
}
