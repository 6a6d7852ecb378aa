-- Where lengths lie on the grid, and locations that lie away from its zero.
use Rattle.std.proofs.Common.{◌≡◌, ℕ, zero, ◌<◌, ◌≤◌, ◌⊎◌, inl, inr, suc, Bool, true, false, ℤ, pos, [], ◌∷◌, length, get_or, Some, refl, sym, ap, ◌∙◌, subst, arith, w32, to_z, of_z, FitsSigned}
use Rattle.std.specs.Prelude.{unsigned_abs}
use Rattle.std.specs.Bool.{MatchBool}
use Rattle.std.specs.List.{Any}
use Rattle.std.proofs.lemmas.Int.{ints, to_z-of_z}
use Rattle.bim_model.specs.declared.upload.Mode.{Mode}
use Rattle.p21_values.specs.declared.value.Value21.{Value21}
use Rattle.p21_values.specs.Values.{items_of}
use Rattle.ifc_units.specs.declared.scale.Scale.{Scale}
use Rattle.ifc_units.specs.declared.length_error.GridFault.TheVariants.{OffGrid, TooFar}
use Rattle.ifc_units.specs.declared.length_error.LengthError.{LengthError}
use Rattle.ifc_units.specs.declared.length_error.LengthError.TheVariants.{Unread, Refused}
use Rattle.ifc_units.specs.Grid.{IsGridNumber, length_of}
use Rattle.ifc_units.specs.Lengths.{units, reach, IsLength, LengthRefused, IsUnread, Fails}
use Rattle.ifc_units.proofs.LengthFacts.{one_scaled}
use Rattle.ifc_units.proofs.Unique.{unique}
use Rattle.model_build.specs.declared.mapping.Lies.{Lies}
use Rattle.model_build.specs.declared.mapping.Lies.TheVariants.{AtZero, OffZero, Between}
use Rattle.model_build.specs.Unsupported.{HasGridNumber, IsSome, IsAwayValue}
use Rattle.model_build.specs.inner.Showing.{HasPlace, are_away}

few : units < 500
few = omega arith

-- a length has one grid number
pub one_number : (scale : Scale) (mode : Mode) (v : Value21) (g h : ℤ) → HasGridNumber scale mode v g → HasGridNumber scale mode v h → g ≡ h
one_number scale mode v g h a b =
    let same = one_scaled v scale a.bytes b.bytes a.decimal b.decimal a.number b.number a.read b.read in
    unique mode units (length_of b.decimal scale) g h few (subst (λ x. IsGridNumber mode units x g) same a.grid) b.grid

pub on_grid : (scale : Scale) (mode : Mode) (v : Value21) (g : ℤ) → IsLength scale mode v g → HasGridNumber scale mode v g
on_grid scale mode v g h = record { bytes = h.bytes; number = h.number; decimal = h.decimal; read = h.read; grid = h.grid }

fits : (g : ℤ) → unsigned_abs g ≤ reach → FitsSigned w32 g
fits g near = omega (arith, ints, near)

-- a number of 32 bits that is written as 0 is 0
zero_held : (g : ℤ) → unsigned_abs g ≤ reach → of_z w32 g ≡ 0 → g ≡ pos 0
zero_held g near e = sym (to_z-of_z w32 g (fits g near)) ∙ ap (to_z w32) e

-- What is known of a value's length says where it lies.

pub at_zero : (scale : Scale) (mode : Mode) (v : Value21) (g : ℤ) → IsLength scale mode v g → of_z w32 g ≡ 0 → HasPlace scale mode v AtZero
at_zero scale mode v g h e = subst (HasGridNumber scale mode v) (zero_held g h.near e) (on_grid scale mode v g h)

pub off_zero : (scale : Scale) (mode : Mode) (v : Value21) (g : ℤ) → IsLength scale mode v g → (of_z w32 g ≡ 0 → ⊥) → HasPlace scale mode v OffZero
off_zero scale mode v g h some = (g, on_grid scale mode v g h, λ e. some (ap (of_z w32) e))

far_off : (g : ℤ) → reach < unsigned_abs g → g ≡ pos 0 → ⊥
far_off g far e = let f = ap unsigned_abs e in omega (arith, far, f)

pub too_far : (scale : Scale) (mode : Mode) (v : Value21) → LengthRefused scale mode v TooFar → HasPlace scale mode v OffZero
too_far scale mode v h =
    (h.refused.0, record { bytes = h.bytes; number = h.number; decimal = h.decimal; read = h.read; grid = h.refused.1 }, far_off h.refused.0 h.refused.2)

pub off_grid : (scale : Scale) (mode : Mode) (v : Value21) → LengthRefused scale mode v OffGrid → HasPlace scale mode v Between
off_grid scale mode v h = λ g has. (
    let same = one_scaled v scale has.bytes h.bytes has.decimal h.decimal has.number h.number has.read h.read in
    h.refused g (subst (λ x. IsGridNumber mode units x g) same has.grid))

side : (a b : ℕ) → (a ≤ b) ⊎ (b < a)
side a b = grind arith

pub unread : (scale : Scale) (mode : Mode) (v : Value21) → IsUnread (IsLength scale mode v) (LengthRefused scale mode v) → HasPlace scale mode v Between
unread scale mode v h = λ g has. elim (side (unsigned_abs g) reach) [
  | inl near ↦ h.none g (record { bytes = has.bytes; number = has.number; decimal = has.decimal; read = has.read; grid = has.grid; near = near })
  | inr far ↦ h.unrefused TooFar (record { bytes = has.bytes; number = has.number; decimal = has.decimal; read = has.read; refused = (g, has.grid, far) })
]

-- Three lengths.

-- they have grid numbers, which aren't all 0
pub record AreOff (scale : Scale) (mode : Mode) (a b c : Value21) : Type 0 where
  pub x : ℤ
  pub y : ℤ
  pub z : ℤ
  pub first : HasGridNumber scale mode a x
  pub second : HasGridNumber scale mode b y
  pub third : HasGridNumber scale mode c z
  pub some : Any IsSome (x ∷ y ∷ z ∷ [])

given : (scale : Scale) (mode : Mode) (value a b c : Value21) → items_of value ≡ Some (a ∷ b ∷ c ∷ []) → AreOff scale mode a b c → IsAwayValue scale mode value
given scale mode value a b c e h = record { a = a; b = b; c = c; three = e; x = h.x; y = h.y; z = h.z; grid = (h.first, (h.second, (h.third, tt))); some = h.some }

pub taken : (scale : Scale) (mode : Mode) (value a b c : Value21) → items_of value ≡ Some (a ∷ b ∷ c ∷ []) → IsAwayValue scale mode value → AreOff scale mode a b c
taken scale mode value a b c e h =
    let f = h.three in
    let one : h.a ≡ a = cc in
    let two : h.b ≡ b = cc in
    let three : h.c ≡ c = cc in
    record {
      x = h.x;
      y = h.y;
      z = h.z;
      first = subst (λ v. HasGridNumber scale mode v h.x) one h.grid.0;
      second = subst (λ v. HasGridNumber scale mode v h.y) two h.grid.1.0;
      third = subst (λ v. HasGridNumber scale mode v h.z) three h.grid.1.1.0;
      some = h.some;
    }

pub all_zero : (x y z : ℤ) → x ≡ pos 0 → y ≡ pos 0 → z ≡ pos 0 → Any IsSome (x ∷ y ∷ z ∷ []) → ⊥
all_zero x y z e f g s = at s.0 s.1 s.2 s.3 s.4
  where
    at : (k : ℕ) (n : ℤ) → k < length (x ∷ y ∷ z ∷ []) → get_or (x ∷ y ∷ z ∷ []) k n ≡ n → IsSome n → ⊥
    at zero n lt there some = some (sym there ∙ e)
    at (suc zero) n lt there some = some (sym there ∙ f)
    at (suc (suc zero)) n lt there some = some (sym there ∙ g)
    at (suc (suc (suc k))) n lt there some = omega (arith, lt)

-- Where the three lie says whether they are.
pub told_off : (scale : Scale) (mode : Mode) (a b c : Value21) (x y z : Lies) → HasPlace scale mode a x → HasPlace scale mode b y → HasPlace scale mode c z
    → MatchBool (are_away x y z) (AreOff scale mode a b c) (AreOff scale mode a b c → ⊥)
told_off scale mode a b c Between y z p q r = λ h. p h.x h.first
told_off scale mode a b c AtZero Between z p q r = λ h. q h.y h.second
told_off scale mode a b c OffZero Between z p q r = λ h. q h.y h.second
told_off scale mode a b c AtZero AtZero Between p q r = λ h. r h.z h.third
told_off scale mode a b c AtZero OffZero Between p q r = λ h. r h.z h.third
told_off scale mode a b c OffZero AtZero Between p q r = λ h. r h.z h.third
told_off scale mode a b c OffZero OffZero Between p q r = λ h. r h.z h.third
told_off scale mode a b c AtZero AtZero AtZero p q r = λ h.
    all_zero h.x h.y h.z (one_number scale mode a h.x (pos 0) h.first p) (one_number scale mode b h.y (pos 0) h.second q) (one_number scale mode c h.z (pos 0) h.third r) h.some
told_off scale mode a b c AtZero AtZero OffZero p q r = record { x = pos 0; y = pos 0; z = r.0; first = p; second = q; third = r.1; some = (2, r.0, omega arith, refl, r.2) }
told_off scale mode a b c AtZero OffZero AtZero p q r = record { x = pos 0; y = q.0; z = pos 0; first = p; second = q.1; third = r; some = (1, q.0, omega arith, refl, q.2) }
told_off scale mode a b c AtZero OffZero OffZero p q r = record { x = pos 0; y = q.0; z = r.0; first = p; second = q.1; third = r.1; some = (1, q.0, omega arith, refl, q.2) }
told_off scale mode a b c OffZero AtZero AtZero p q r = record { x = p.0; y = pos 0; z = pos 0; first = p.1; second = q; third = r; some = (0, p.0, omega arith, refl, p.2) }
told_off scale mode a b c OffZero AtZero OffZero p q r = record { x = p.0; y = pos 0; z = r.0; first = p.1; second = q; third = r.1; some = (0, p.0, omega arith, refl, p.2) }
told_off scale mode a b c OffZero OffZero AtZero p q r = record { x = p.0; y = q.0; z = pos 0; first = p.1; second = q.1; third = r; some = (0, p.0, omega arith, refl, p.2) }
told_off scale mode a b c OffZero OffZero OffZero p q r = record { x = p.0; y = q.0; z = r.0; first = p.1; second = q.1; third = r.1; some = (0, p.0, omega arith, refl, p.2) }

-- a test of one thing is a test of another that holds with it
pub same_test : (b : Bool) (P Q : Type 0) → (P → Q) → (Q → P) → MatchBool b P (P → ⊥) → MatchBool b Q (Q → ⊥)
same_test true P Q to from h = to h
same_test false P Q to from h = λ q. h (from q)

pub away_told : (scale : Scale) (mode : Mode) (value a b c : Value21) (x y z : Lies) → items_of value ≡ Some (a ∷ b ∷ c ∷ []) → HasPlace scale mode a x → HasPlace scale mode b y → HasPlace scale mode c z
    → MatchBool (are_away x y z) (IsAwayValue scale mode value) (IsAwayValue scale mode value → ⊥)
away_told scale mode value a b c x y z e p q r =
    same_test (are_away x y z) (AreOff scale mode a b c) (IsAwayValue scale mode value) (given scale mode value a b c e) (taken scale mode value a b c e) (told_off scale mode a b c x y z p q r)

-- The errors of a length.

pub fails_far : (scale : Scale) (mode : Mode) (v : Value21) (error : LengthError) → error ≡ Refused TooFar → Fails (IsLength scale mode v) (LengthRefused scale mode v) error → HasPlace scale mode v OffZero
fails_far scale mode v error e h = too_far scale mode v (subst (Fails (IsLength scale mode v) (LengthRefused scale mode v)) e h)

pub fails_off : (scale : Scale) (mode : Mode) (v : Value21) (error : LengthError) → error ≡ Refused OffGrid → Fails (IsLength scale mode v) (LengthRefused scale mode v) error → HasPlace scale mode v Between
fails_off scale mode v error e h = off_grid scale mode v (subst (Fails (IsLength scale mode v) (LengthRefused scale mode v)) e h)

pub fails_unread : (scale : Scale) (mode : Mode) (v : Value21) (error : LengthError) → error ≡ Unread → Fails (IsLength scale mode v) (LengthRefused scale mode v) error → HasPlace scale mode v Between
fails_unread scale mode v error e h = unread scale mode v (subst (Fails (IsLength scale mode v) (LengthRefused scale mode v)) e h)
