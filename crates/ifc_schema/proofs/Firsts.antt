-- What a search for the first flaw keeps.
use Rattle.std.proofs.Common.{◌≡◌, ℕ, zero, suc, ◌<◌, ◌++◌, ◌∷◌, [], List, length, get_or, Option, None, Some, is_some, true, false, below_more, refl, subst, ap, ◌∙◌, arith}
use Rattle.std.specs.List.{HoldsAt}
use Rattle.std.proofs.lemmas.List.{get_or_default, length_push}
use Rattle.std.proofs.lemmas.List.Elements.{All-cons, All-nil, All-from_all_within}
use Rattle.ifc_schema.specs.declared.flaw.Flaw.{Flaw}
use Rattle.ifc_schema.specs.Flaws.{FirstFlaw}

-- an element without a flaw has none
pub no_flaw : {X : Type 0} (R : X → Option Flaw → Type 0) (x y : X) (f : Option Flaw) → x ≡ y → is_some f ≡ false → R x f → R y None
no_flaw R x y None e s h = subst (λ z. R z None) e h
no_flaw R x y (Some f) e s h = cc

-- The elements of a list are given one after another. The next one has the first flaw,
pub flawed_next : {X : Type 0} (R : X → Option Flaw → Type 0) (xs given : List X) (x : X) (f : Option Flaw) → (length given < length xs) × (x ≡ get_or xs (length given) x)
    → ((k : ℕ) → k < length given → HoldsAt (λ y. R y None) xs k) → is_some f ≡ true → R x f → FirstFlaw R xs f
flawed_next R xs given x None t before s h = cc
flawed_next R xs given x (Some flaw) t before s h = record {
  place = length given;
  within = t.0;
  here = λ d. subst (λ y. R y (Some flaw)) (t.1 ∙ get_or_default xs (length given) x d t.0) h;
  before = before;
}

-- or has none,
pub sound_next : {X : Type 0} (R : X → Option Flaw → Type 0) (xs given : List X) (x : X) (f : Option Flaw) → (length given < length xs) × (x ≡ get_or xs (length given) x)
    → ((k : ℕ) → k < length given → HoldsAt (λ y. R y None) xs k) → is_some f ≡ false → R x f → (k : ℕ) → k < length (given ++ x ∷ []) → HoldsAt (λ y. R y None) xs k
sound_next R xs given x f t before s h k l =
    below_more _ _ before (λ d. no_flaw R x (get_or xs (length given) d) f (t.1 ∙ get_or_default xs (length given) x d t.0) s h) k (omega (arith, length_push given x))

-- and at the end none of them has one.
pub sound_all : {X : Type 0} (R : X → Option Flaw → Type 0) (xs given : List X) → given ≡ xs → ((k : ℕ) → k < length given → HoldsAt (λ y. R y None) xs k) → FirstFlaw R xs None
sound_all R xs given e before = All-from_all_within (λ y. R y None) xs (λ k d _ l. before k (let f = ap length e in omega arith) d)

-- The elements of a list are asked one by one. The first of them has the first flaw,
pub first_here : {X : Type 0} (R : X → Option Flaw → Type 0) (x : X) (xs : List X) (f : Option Flaw) → is_some f ≡ true → R x f → FirstFlaw R (x ∷ xs) f
first_here R x xs None s h = cc
first_here R x xs (Some flaw) s h = record { place = 0; within = omega arith; here = λ d. h; before = λ k l. absurd (omega arith) }

all_before : {X : Type 0} (P : X → Type 0) (x : X) (xs : List X) (n : ℕ) → P x → ((k : ℕ) → k < n → HoldsAt P xs k) → (k : ℕ) → k < suc n → HoldsAt P (x ∷ xs) k
all_before P x xs n p h zero l d = p
all_before P x xs n p h (suc k) l d = h k (omega arith) d

-- or has none, and those after it are asked,
pub first_behind : {X : Type 0} (R : X → Option Flaw → Type 0) (x : X) (xs : List X) (f g : Option Flaw) → is_some f ≡ false → R x f → FirstFlaw R xs g → FirstFlaw R (x ∷ xs) g
first_behind R x xs (Some flaw) g s h b = cc
first_behind R x xs None None s h b = All-cons (λ y. R y None) x xs h b
first_behind R x xs None (Some flaw) s h b = record {
  place = suc b.place;
  within = let l = b.within in omega arith;
  here = λ d. b.here d;
  before = all_before (λ y. R y None) x xs b.place h b.before;
}

-- down to the last.
pub first_only : {X : Type 0} (R : X → Option Flaw → Type 0) (x : X) (f : Option Flaw) → R x f → FirstFlaw R (x ∷ []) f
first_only R x None h = All-cons (λ y. R y None) x [] h (All-nil (λ y. R y None))
first_only R x (Some flaw) h = first_here R x [] (Some flaw) refl h
