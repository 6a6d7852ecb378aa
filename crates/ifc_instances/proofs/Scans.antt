-- Scans for the first item of which something holds.
use Rattle.std.proofs.Common.{◌≡◌, ℕ, ◌<◌, List, [], ◌∷◌, ◌++◌, length, get_or, sym, subst}
use Rattle.std.specs.List.{All, Any}
use Rattle.std.proofs.lemmas.List.Elements.{All-push}

pub any_here : {X : Type 0} (P : X → Type 0) (xs : List X) (i : ℕ) (x : X) → i < length xs → x ≡ get_or xs i x → P x → Any P xs
any_here P xs i x lt at h = (i, x, lt, sym at, h)

-- the same in a loop over values or instances where they stand, of which some were given so far

pub any_turn : {X : Type 0} (P : X → Type 0) (xs given : List X) (x : X) → (length given < length xs) × (x ≡ get_or xs (length given) x) → P x → Any P xs
any_turn P xs given x at h = any_here P xs (length given) x at.0 at.1 h

pub any_past : {X : Type 0} (P : X → Type 0) (xs given : List X) → given ≡ xs → All (λ x. P x → ⊥) given → Any P xs → ⊥
any_past P xs given all none any = (subst (All (λ x. P x → ⊥)) all none) any.0 any.1 any.2 (subst P (sym any.3) any.4)

pub any_next : {X : Type 0} (P : X → Type 0) (given : List X) (x : X) → (P x → ⊥) → All (λ x. P x → ⊥) given → All (λ x. P x → ⊥) (given ++ x ∷ [])
any_next P given x never none = All-push (λ x. P x → ⊥) given x none never
