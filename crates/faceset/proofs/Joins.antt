-- What each of some things gives, joined.
use Rattle.std.proofs.Common.{◌≡◌, ℕ, zero, suc, ◌<◌, List, [], ◌∷◌, ◌++◌, append_assoc, length, filter_map, get_or, Option, Some, None, Any, Contains, refl, sym, ◌∙◌, ap, subst, arith}
use Rattle.std.specs.List.{cons_option}
use Rattle.std.proofs.lemmas.List.{append-nil}
use Rattle.bim_model.specs.declared.geometry.Triangle.{Triangle}
use Rattle.faceset.specs.FaceSets.{Joined}

pub joined_one : {X : Type 0} (Gives : X → List Triangle → Type 0) (x : X) (ts : List Triangle) → Gives x ts → Joined Gives (x ∷ []) ts
joined_one Gives x ts gives = (ts, [], gives, refl, sym (append-nil ts))

pub joined_append : {X : Type 0} (Gives : X → List Triangle → Type 0) (xs ys : List X) (ts us : List Triangle) → Joined Gives xs ts → Joined Gives ys us → Joined Gives (xs ++ ys) (ts ++ us)
joined_append Gives [] ys ts us j k = rw j k
joined_append Gives (x ∷ xs) ys ts us j k =
    (j.0, j.1 ++ us, j.2, joined_append Gives xs ys j.1 us j.3 k, ap (λ (vs : List Triangle). vs ++ us) j.4 ∙ append_assoc j.0 j.1 us)

-- what one of them gives
pub joined_at : {X : Type 0} (Gives : X → List Triangle → Type 0) (xs : List X) (ts : List Triangle) (k : ℕ) (x : X) → k < length xs → get_or xs k x ≡ x → Joined Gives xs ts → (part : List Triangle) × Gives x part
joined_at Gives [] ts k x lt is j = absurd (omega (arith, lt))
joined_at Gives (y ∷ xs) ts zero x lt is j = (j.0, subst (λ z. Gives z j.0) is j.2)
joined_at Gives (y ∷ xs) ts (suc k) x lt is j = joined_at Gives xs j.1 k x (omega (arith, lt)) is j.3

pub joined_same : {X : Type 0} (Gives : X → List Triangle → Type 0) → ((x : X) (ts us : List Triangle) → Gives x ts → Gives x us → ts ≡ us)
    → (xs : List X) (ts us : List Triangle) → Joined Gives xs ts → Joined Gives xs us → ts ≡ us
joined_same Gives one [] ts us p q = p ∙ sym q
joined_same Gives one (x ∷ xs) ts us p q =
    let first = one x p.0 q.0 p.2 q.2 in
    let rest = joined_same Gives one xs p.1 q.1 p.3 q.3 in
    p.4 ∙ ap (λ (vs : List Triangle). vs ++ p.1) first ∙ ap (λ (vs : List Triangle). q.0 ++ vs) rest ∙ sym q.4

-- Lists made item by item, where an item may give none.

contains_behind : {Y : Type 0} (o : Option Y) (ys : List Y) (y : Y) → Contains ys y → Contains (cons_option o ys) y
contains_behind None ys y h = h
contains_behind (Some x) ys y h = (suc h.0, (let lt = h.1 in omega (arith, lt)), h.2)

contains_first : {Y : Type 0} (o : Option Y) (ys : List Y) (y : Y) → o ≡ Some y → Contains (cons_option o ys) y
contains_first o ys y is = rw is (0, omega arith, refl)

contains_at : {X Y : Type 0} (h : X → Option Y) (xs : List X) (k : ℕ) (x : X) (y : Y) → k < length xs → get_or xs k x ≡ x → h x ≡ Some y → Contains (filter_map h xs) y
contains_at h [] k x y lt at is = absurd (omega (arith, lt))
contains_at h (z ∷ xs) zero x y lt at is = contains_first (h z) (filter_map h xs) y (ap h at ∙ is)
contains_at h (z ∷ xs) (suc k) x y lt at is = contains_behind (h z) (filter_map h xs) y (contains_at h xs k x y (omega (arith, lt)) at is)

pub contains_mapped : {X Y : Type 0} (h : X → Option Y) (xs : List X) (x : X) (y : Y) → Contains xs x → h x ≡ Some y → Contains (filter_map h xs) y
contains_mapped h xs x y has is = contains_at h xs has.0 x y has.1 has.2 is

-- what one of the items gives that holds
pub record GivesOne {X Y : Type 0} (h : X → Option Y) (P : Y → Type 0) (xs : List X) : Type 0 where
  pub item : X
  pub listed : Contains xs item
  pub given : Y
  pub gives : h item ≡ Some given
  pub holds : P given

gives_behind : {X Y : Type 0} (h : X → Option Y) (P : Y → Type 0) (x : X) (xs : List X) → GivesOne h P xs → GivesOne h P (x ∷ xs)
gives_behind h P x xs g = record { item = g.item; listed = (suc g.listed.0, (let lt = g.listed.1 in omega (arith, lt)), g.listed.2); given = g.given; gives = g.gives; holds = g.holds }

gives_step : {X Y : Type 0} (h : X → Option Y) (P : Y → Type 0) (x : X) (xs : List X) (rest : Any P (filter_map h xs) → GivesOne h P xs) (o : Option Y) → h x ≡ o
    → (k : ℕ) (y : Y) → k < length (cons_option o (filter_map h xs)) → get_or (cons_option o (filter_map h xs)) k y ≡ y → P y → GivesOne h P (x ∷ xs)
gives_step h P x xs rest None is k y lt at holds = gives_behind h P x xs (rest (k, y, lt, at, holds))
gives_step h P x xs rest (Some z) is zero y lt at holds = record { item = x; listed = (0, omega arith, refl); given = y; gives = is ∙ ap Some at; holds = holds }
gives_step h P x xs rest (Some z) is (suc k) y lt at holds = gives_behind h P x xs (rest (k, y, omega (arith, lt), at, holds))

pub gives_one : {X Y : Type 0} (h : X → Option Y) (P : Y → Type 0) (xs : List X) → Any P (filter_map h xs) → GivesOne h P xs
gives_one h P [] any = absurd (let lt = any.2 in omega (arith, lt))
gives_one h P (x ∷ xs) any = gives_step h P x xs (gives_one h P xs) (h x) refl any.0 any.1 any.2 any.3 any.4
