-- The least number that one of several things shows, found one thing after another.
use Rattle.std.proofs.Common.{◌≡◌, ℕ, zero, ◌+◌, ◌<◌, ◌≤◌, ◌⊎◌, inl, inr, Bool, true, false, if◌then◌else◌, suc, List, [], ◌∷◌, ◌++◌, length, get_or, take, take_all, Option, Some, None, Contains, refl, sym, ap, ◌∙◌, subst, arith}
use Rattle.std.specs.Prelude.{nat_lt}
use Rattle.std.proofs.lemmas.List.{take_more, get_or_default}
use Rattle.std.proofs.lemmas.List.Elements.{Contains-append_left, Contains-append_right, Contains-append_cases}
use Rattle.std.proofs.lemmas.Bool.{ltb-true, ltb-false}
use Rattle.ifc_instances.specs.inner.Least.{IsLeast, LeastOf}
use Rattle.model_build.specs.FaultyInstances.{ShownBy}
use Rattle.model_build.specs.inner.Showing.{lesser}

-- what is least of one thing is least of another that holds of the same numbers
pub same_least : (P Q : ℕ → Type 0) (found : Option ℕ) → ((id : ℕ) → P id → Q id) → ((id : ℕ) → Q id → P id) → LeastOf P found → LeastOf Q found
same_least P Q None to from h = λ id q. h id (from id q)
same_least P Q (Some a) to from h = record { here = to a h.here; lower = λ k low q. h.lower k low (from k q) }

-- of two leasts the lesser is the least of both
pub lesser_least : (P Q : ℕ → Type 0) (a b : Option ℕ) → LeastOf P a → LeastOf Q b → LeastOf (λ id. P id ⊎ Q id) (lesser a b)
lesser_least P Q None None g h = λ id s. elim s [ inl p ↦ g id p | inr q ↦ h id q ]
lesser_least P Q None (Some b) g h = record { here = inr h.here; lower = λ k low s. elim s [ inl p ↦ g k p | inr q ↦ h.lower k low q ] }
lesser_least P Q (Some a) None g h = record { here = inl g.here; lower = λ k low s. elim s [ inl p ↦ g.lower k low p | inr q ↦ h k q ] }
lesser_least P Q (Some a) (Some b) g h = pick P Q a b (nat_lt a b) refl g h
  where
    pick : (P Q : ℕ → Type 0) (a b : ℕ) (t : Bool) → nat_lt a b ≡ t → IsLeast P a → IsLeast Q b → LeastOf (λ id. P id ⊎ Q id) (if t then Some a else Some b)
    pick P Q a b true e g h = record {
      here = inl g.here;
      lower = λ k low s. elim s [ inl p ↦ g.lower k low p | inr q ↦ h.lower k (let lt = ltb-true a b e in omega arith) q ];
    }
    pick P Q a b false e g h = record {
      here = inr h.here;
      lower = λ k low s. elim s [ inl p ↦ g.lower k (let le = ltb-false a b e in omega arith) p | inr q ↦ h.lower k low q ];
    }

-- what a list shows is what one of its parts shows
pub record InParts {X : Type 0} (R : List X → ℕ → Type 0) : Type 0 where
  pub none : (id : ℕ) → R [] id → ⊥
  pub joined : (xs ys : List X) (id : ℕ) → R xs id ⊎ R ys id → R (xs ++ ys) id
  pub split : (xs ys : List X) (id : ℕ) → R (xs ++ ys) id → R xs id ⊎ R ys id

pub least_none : {X : Type 0} (R : List X → ℕ → Type 0) → InParts R → LeastOf (R []) None
least_none R parts = parts.none

-- one more thing
pub least_added : {X : Type 0} (R : List X → ℕ → Type 0) (xs : List X) (x : X) (old here : Option ℕ) → InParts R → LeastOf (R xs) old → LeastOf (R (x ∷ [])) here → LeastOf (R (xs ++ x ∷ [])) (lesser old here)
least_added R xs x old here parts g h =
    same_least (λ id. R xs id ⊎ R (x ∷ []) id) (R (xs ++ x ∷ [])) (lesser old here) (parts.joined xs (x ∷ [])) (parts.split xs (x ∷ [])) (lesser_least (R xs) (R (x ∷ [])) old here g h)

pub least_more : {X : Type 0} (R : List X → ℕ → Type 0) (xs : List X) (i : ℕ) (x : X) (old here : Option ℕ) → InParts R → i < length xs → x ≡ get_or xs i x
    → LeastOf (R (take i xs)) old → LeastOf (R (x ∷ [])) here → LeastOf (R (take (i + 1) xs)) (lesser old here)
least_more R xs i x old here parts lt at g h =
    let t : take i xs ++ x ∷ [] ≡ take (i + 1) xs = ap (λ y. take i xs ++ y ∷ []) at ∙ sym (take_more xs i x lt) in
    subst (λ ys. LeastOf (R ys) (lesser old here)) t (least_added R (take i xs) x old here parts g h)

-- all of them
pub least_all : {X : Type 0} (R : List X → ℕ → Type 0) (xs : List X) (i : ℕ) (found : Option ℕ) → length xs ≤ i → LeastOf (R (take i xs)) found → LeastOf (R xs) found
least_all R xs i found le h = subst (λ ys. LeastOf (R ys) found) (take_all i xs le) h

-- Numbers that others show.

pub shown_parts : (Shown : ℕ → ℕ → Type 0) → InParts (ShownBy Shown)
shown_parts Shown = record {
  none = λ id h. (let lt = h.1.1 in omega arith);
  joined = λ xs ys id s. elim s [ inl h ↦ (h.0, Contains-append_left xs ys h.0 h.1, h.2) | inr h ↦ (h.0, Contains-append_right xs ys h.0 h.1, h.2) ];
  split = λ xs ys id h. elim (Contains-append_cases xs ys h.0 h.1) [ inl c ↦ inl (h.0, c, h.2) | inr c ↦ inr (h.0, c, h.2) ];
}

pub only_one : (from k : ℕ) → Contains (from ∷ []) k → from ≡ k
only_one from k c = at from k c.0 c.1 c.2
  where
    at : (from k i : ℕ) → i < length (from ∷ []) → get_or (from ∷ []) i k ≡ k → from ≡ k
    at from k zero lt e = e
    at from k (suc i) lt e = absurd (omega (arith, lt))

-- what one shows is what a list of it alone shows
pub shown_one : (Shown : ℕ → ℕ → Type 0) (from : ℕ) (found : Option ℕ) → LeastOf (Shown from) found → LeastOf (ShownBy Shown (from ∷ [])) found
shown_one Shown from found h =
    same_least (Shown from) (ShownBy Shown (from ∷ [])) found (λ id s. (from, (0, omega arith, refl), s))
    (λ id s. subst (λ k. Shown k id) (sym (only_one from s.0 s.1)) s.2) h

-- The form of a loop over such numbers.

pub shown_none : (Shown : ℕ → ℕ → Type 0) (ids : List ℕ) → LeastOf (ShownBy Shown (take 0 ids)) None
shown_none Shown ids = least_none (ShownBy Shown) (shown_parts Shown)

pub shown_more : (Shown : ℕ → ℕ → Type 0) (ids : List ℕ) (i : ℕ) (old here : Option ℕ) → i < length ids → LeastOf (ShownBy Shown (take i ids)) old → LeastOf (Shown (get_or ids i 0)) here
    → LeastOf (ShownBy Shown (take (i + 1) ids)) (lesser old here)
shown_more Shown ids i old here lt g h =
    least_more (ShownBy Shown) ids i (get_or ids i 0) old here (shown_parts Shown) lt (get_or_default ids i 0 (get_or ids i 0) lt) g (shown_one Shown (get_or ids i 0) here h)

pub shown_all : (Shown : ℕ → ℕ → Type 0) (ids : List ℕ) (i : ℕ) (found : Option ℕ) → length ids ≤ i → LeastOf (ShownBy Shown (take i ids)) found → LeastOf (ShownBy Shown ids) found
shown_all Shown = least_all (ShownBy Shown)
