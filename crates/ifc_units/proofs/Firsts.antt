-- Values in a row: what they are, and the first that is refused.
use Rattle.std.proofs.Common.{◌≡◌, ℕ, zero, suc, ◌<◌, inl, inr, List, [], ◌∷◌, length, get_or, take, refl, sym, ap₂, subst, arith}
use Rattle.std.specs.List.{AllZip}
use Rattle.ifc_units.specs.declared.length_error.GridFault.{GridFault}
use Rattle.ifc_units.specs.declared.length_error.LengthError.{LengthError}
use Rattle.ifc_units.specs.declared.length_error.LengthError.TheVariants as error
use Rattle.ifc_units.specs.Lengths.{FirstRefused, IsUnread, Fails}

module _ {X Y : Type 0} (R : X → Y → Type 0) (IsRefused : X → GridFault → Type 0) where
  abbrev pub Has : X → Type 0
  Has x = (y : Y) × R x y

  -- the first that is refused
  pub refused_here : (xs : List X) (i : ℕ) (ys : List Y) (x : X) (f : GridFault) → i < length xs → x ≡ get_or xs i x → AllZip R (take i xs) ys → IsRefused x f → FirstRefused Has IsRefused xs f
  refused_here [] i ys x f lt at are is = absurd (omega (arith, lt))
  refused_here (w ∷ xs) zero ys x f lt at are is = inl (subst (λ z. IsRefused z f) at is)
  refused_here (w ∷ xs) (suc i) [] x f lt at are is = absurd are
  refused_here (w ∷ xs) (suc i) (y ∷ ys) x f lt at are is = inr ((y, are.0), refused_here xs i ys x f (omega (arith, lt)) at are.1 is)

  module _ (apart : (x : X) (y : Y) (f : GridFault) → R x y → IsRefused x f → ⊥) where
    -- what isn't refused
    pub never_refused : (xs : List X) (ys : List Y) (f : GridFault) → AllZip R xs ys → FirstRefused Has IsRefused xs f → ⊥
    never_refused [] ys f are h = h
    never_refused (x ∷ xs) [] f are h = are
    never_refused (x ∷ xs) (y ∷ ys) f are (inl h) = apart x y f are.0 h
    never_refused (x ∷ xs) (y ∷ ys) f are (inr h) = never_refused xs ys f are.1 h.1

    -- the first that can't be read
    unread_none : (xs : List X) (i : ℕ) (zs : List Y) (x : X) → i < length xs → x ≡ get_or xs i x → ((y : Y) → R x y → ⊥) → AllZip R xs zs → ⊥
    unread_none [] i zs x lt at none are = absurd (omega (arith, lt))
    unread_none (w ∷ xs) i [] x lt at none are = are
    unread_none (w ∷ xs) zero (z ∷ zs) x lt at none are = none z (subst (λ u. R u z) (sym at) are.0)
    unread_none (w ∷ xs) (suc i) (z ∷ zs) x lt at none are = unread_none xs i zs x (omega (arith, lt)) at none are.1

    unread_unrefused : (xs : List X) (i : ℕ) (ys : List Y) (x : X) (f : GridFault) → i < length xs → x ≡ get_or xs i x → AllZip R (take i xs) ys
        → ((y : Y) → R x y → ⊥) → ((f : GridFault) → IsRefused x f → ⊥) → FirstRefused Has IsRefused xs f → ⊥
    unread_unrefused [] i ys x f lt at are none unrefused h = h
    unread_unrefused (w ∷ xs) zero ys x f lt at are none unrefused (inl h) = unrefused f (subst (λ u. IsRefused u f) (sym at) h)
    unread_unrefused (w ∷ xs) zero ys x f lt at are none unrefused (inr h) = none h.0.0 (subst (λ u. R u h.0.0) (sym at) h.0.1)
    unread_unrefused (w ∷ xs) (suc i) [] x f lt at are none unrefused h = are
    unread_unrefused (w ∷ xs) (suc i) (y ∷ ys) x f lt at are none unrefused (inl h) = apart w y f are.0 h
    unread_unrefused (w ∷ xs) (suc i) (y ∷ ys) x f lt at are none unrefused (inr h) = unread_unrefused xs i ys x f (omega (arith, lt)) at are.1 none unrefused h.1

    pub unread_here : (xs : List X) (i : ℕ) (ys : List Y) (x : X) → i < length xs → x ≡ get_or xs i x → AllZip R (take i xs) ys → IsUnread (R x) (IsRefused x) → IsUnread (AllZip R xs) (FirstRefused Has IsRefused xs)
    unread_here xs i ys x lt at are u = record {
      none = λ zs h. unread_none xs i zs x lt at u.none h;
      unrefused = λ f h. unread_unrefused xs i ys x f lt at are u.none u.unrefused h;
    }

    -- the first that fails decides
    pub fails_here : (xs : List X) (i : ℕ) (ys : List Y) (x : X) (e : LengthError) → i < length xs → x ≡ get_or xs i x → AllZip R (take i xs) ys → Fails (R x) (IsRefused x) e → Fails (AllZip R xs) (FirstRefused Has IsRefused xs) e
    fails_here xs i ys x error.Unread lt at are h = unread_here xs i ys x lt at are h
    fails_here xs i ys x (error.Refused f) lt at are h = refused_here xs i ys x f lt at are h

    -- a row has one fault
    pub one_first : ((x : X) (f g : GridFault) → IsRefused x f → IsRefused x g → f ≡ g) → (xs : List X) (f g : GridFault) → FirstRefused Has IsRefused xs f → FirstRefused Has IsRefused xs g → f ≡ g
    one_first one [] f g h k = absurd h
    one_first one (x ∷ xs) f g (inl h) (inl k) = one x f g h k
    one_first one (x ∷ xs) f g (inl h) (inr k) = absurd (apart x k.0.0 f k.0.1 h)
    one_first one (x ∷ xs) f g (inr h) (inl k) = absurd (apart x h.0.0 g h.0.1 k)
    one_first one (x ∷ xs) f g (inr h) (inr k) = one_first one xs f g h.1 k.1

  -- a row is one row of things
  pub one_row : ((x : X) (y z : Y) → R x y → R x z → y ≡ z) → (xs : List X) (ys zs : List Y) → AllZip R xs ys → AllZip R xs zs → ys ≡ zs
  one_row one [] [] [] h k = refl
  one_row one [] [] (z ∷ zs) h k = absurd k
  one_row one [] (y ∷ ys) zs h k = absurd h
  one_row one (x ∷ xs) [] zs h k = absurd h
  one_row one (x ∷ xs) (y ∷ ys) [] h k = absurd k
  one_row one (x ∷ xs) (y ∷ ys) (z ∷ zs) h k = ap₂ (λ u us. u ∷ us) (one x y z h.0 k.0) (one_row one xs ys zs h.1 k.1)
