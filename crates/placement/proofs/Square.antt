-- Axes that lie along the grid's aren't oblique.
use Rattle.std.proofs.Common.{◌≡◌, ◌==◌, ◌||◌, ℕ, ℤ, pos, negsuc, Bool, if◌then◌else◌, List, Option, Some, None, IfSome, MatchOption, refl, ap, ◌∙◌, subst}
use Rattle.std.specs.List.{slice_get}
use Rattle.std.specs.Ordering.{is_lt}
use Rattle.bim_text.specs.declared.decimal.Decimal.{Decimal}
use Rattle.bim_text.specs.ScaledNumbers.{Scaled, signed, raised, size_order}
use Rattle.bim_text.specs.Decimals.{Reads, value_of}
use Rattle.bim_text.proofs.Unique.{one_decimal}
use Rattle.p21_values.specs.declared.value.Value21.{Value21}
use Rattle.p21_values.specs.declared.value.Instance.{Instance}
use Rattle.p21_values.specs.Values.{reference_of}
use Rattle.p21_values.proofs.ValueLemmas.{one, refers_absent}
use Rattle.placement.specs.declared.axis.Axis.{Axis}
use Rattle.placement.specs.declared.axes.Axes.{Axes}
use Rattle.placement.specs.declared.direction.Direction.{Direction}
use Rattle.placement.specs.declared.direction.Vector.{Vector}
use Rattle.placement.specs.Directions.{Spelled, IsDirection, Directs, Directions, is_dwarfed, is_faint, sign, cleaned_component, cleaned, LiesAlong, without, first_direction, second_direction, GiveAxes, HasAxes, Oblique}

abbrev scaled : Bool → ℕ → ℤ → Scaled
scaled b m p = record { number = signed b m; power = p }

abbrev pub vector : ℤ → ℤ → ℤ → Vector
vector a b c = record { x = a; y = b; z = c }

-- Two decimals of one value, and with one sign.

record Alike (d e : Decimal) : Type 0 where
  value : value_of d ≡ value_of e
  signs : sign d ≡ sign e

same_value : (b c : Bool) (m n : ℕ) (p q : ℤ) → b ≡ c → m ≡ n → p ≡ q → scaled b m p ≡ scaled c n q
same_value b c m n p q e f g = rw (e, f, g) refl

same_sign : (b c : Bool) (m n : ℕ) → b ≡ c → m ≡ n → (if m == 0 then pos 0 else (if b then negsuc 0 else pos 1)) ≡ (if n == 0 then pos 0 else (if c then negsuc 0 else pos 1))
same_sign b c m n e f = rw (e, f) refl

alike : (text : List ℕ) (d e : Decimal) → Reads text d → Reads text e → Alike d e
alike text d e r s =
    let h = one_decimal text d e r s in
    record { value = same_value d.negative e.negative d.digits e.digits d.exp e.exp h.0 h.1 h.2; signs = same_sign d.negative e.negative d.digits e.digits h.0 h.1 }

dwarfed : (a b c d : Decimal) → Alike a b → Alike c d → is_dwarfed a c ≡ is_dwarfed b d
dwarfed a b c d g h =
    ap (λ (v : Scaled). is_lt (size_order (raised v (pos 6)) (value_of c))) g.value ∙ ap (λ (v : Scaled). is_lt (size_order (raised (value_of b) (pos 6)) v)) h.value

any_of : (p q r s t u : Bool) → p ≡ s → q ≡ t → r ≡ u → (p || q || r) ≡ (s || t || u)
any_of p q r s t u e f g = rw (e, f, g) refl

kept : (p q : Bool) (m n : ℤ) → p ≡ q → m ≡ n → (if p then pos 0 else m) ≡ (if q then pos 0 else n)
kept p q m n e f = rw (e, f) refl

-- Two directions of the same components.

record AreAlike (d e : Direction) : Type 0 where
  x : Alike d.x e.x
  y : Alike d.y e.y
  z : Alike d.z e.z

component : (d e : Direction) (a b : Decimal) → AreAlike d e → Alike a b → cleaned_component d a ≡ cleaned_component e b
component d e a b h g =
    kept (is_faint d a) (is_faint e b) (sign a) (sign b)
    (any_of _ _ _ _ _ _ (dwarfed a b d.x e.x g h.x) (dwarfed a b d.y e.y g h.y) (dwarfed a b d.z e.z g h.z)) g.signs

pub same_vector : (a b c x y z : ℤ) → a ≡ x → b ≡ y → c ≡ z → vector a b c ≡ vector x y z
same_vector a b c x y z e f g = rw (e, f, g) refl

same_cleaned : (d e : Direction) → AreAlike d e → cleaned d ≡ cleaned e
same_cleaned d e h = same_vector _ _ _ _ _ _ (component d e d.x e.x h h.x) (component d e d.y e.y h h.y) (component d e d.z e.z h h.z)

same_direction : (world : List Instance) (id : ℕ) (d e : Direction) → IsDirection world id d → IsDirection world id e → cleaned d ≡ cleaned e
same_direction world id d e r s =
    let spelled = one _ r.spelled s.spelled r.numbers s.numbers in
    same_cleaned d e (record {
      x = alike s.spelled.x d.x e.x (subst (λ (t : Spelled). Reads t.x d.x) spelled r.x) s.x;
      y = alike s.spelled.y d.y e.y (subst (λ (t : Spelled). Reads t.y d.y) spelled r.y) s.y;
      z = alike s.spelled.z d.z e.z (subst (λ (t : Spelled). Reads t.z d.z) spelled r.z) s.z;
    })

-- Two directions, which may be absent, that give the same.

pub record GiveSame (d e : Option Direction) : Type 0 where
  pub first : first_direction d ≡ first_direction e
  pub second : (z : Axis) → second_direction z d ≡ second_direction z e

pub same_directs : (world : List Instance) (v : Value21) (d e : Option Direction) → Directs world v d → Directs world v e → GiveSame d e
same_directs world v None None r s = record { first = refl; second = λ z. refl }
same_directs world v None (Some e) r s = refers_absent v s.0 r s.1
same_directs world v (Some d) None r s = refers_absent v r.0 s r.1
same_directs world v (Some d) (Some e) r s =
    let to = one (reference_of v) r.0 s.0 r.1 s.1 in
    let same = same_direction world s.0 d e (subst (λ (t : ℕ). IsDirection world t d) to r.2) s.2 in
    record { first = same; second = λ z. same }

pub same_directions : (world : List Instance) (id : ℕ) (a b c d : Option Direction) → Directions world id a b → Directions world id c d → GiveSame a c × GiveSame b d
same_directions world id a b c d r s =
    let i = one _ r.instance s.instance r.found s.found in
    let first = one _ r.first s.first (subst (λ (t : Instance). slice_get t.values 1 ≡ Some r.first) i r.first_there) s.first_there in
    let second = one _ r.second s.second (subst (λ (t : Instance). slice_get t.values 2 ≡ Some r.second) i r.second_there) s.second_there in (
      same_directs world s.first a c (subst (λ (v : Value21). Directs world v a) first r.first_says) s.first_says,
      same_directs world s.second b d (subst (λ (v : Value21). Directs world v b) second r.second_says) s.second_says,
    )

pub square : (world : List Instance) (id : ℕ) (axes : Axes) → HasAxes world id axes → Oblique world id → ⊥
square world id axes h o =
    let same = same_directions world id h.axis h.reference o.axis o.reference h.directions o.directions in
    let g = h.given in
    o.none axes (record {
      z = subst (λ (v : Vector). LiesAlong v axes.z) same.0.first g.z;
      x = subst (λ (v : Vector). LiesAlong (without axes.z v) axes.x) (same.1.second axes.z) g.x;
      y = g.y;
    })

pub squares : (world : List Instance) (id : ℕ) (a r : Option Direction) (o : Option Axes) → Directions world id a r → MatchOption o ((axes : Axes) → GiveAxes a r axes → ⊥) (GiveAxes a r) → IfSome o (λ axes. Oblique world id → ⊥)
squares world id a r None d h = tt
squares world id a r (Some axes) d h = square world id axes (record { axis = a; reference = r; directions = d; given = h })
