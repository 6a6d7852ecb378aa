-- A value is one point at most, or has one fault; and so for lists of points.
use Rattle.std.proofs.Common.{◌≡◌, ◌≤◌, ℤ, pos, ◌-ℤ◌, ◌≤ℤ◌, List, [], ◌∷◌, ◌++◌, ◌+◌, take, length, get_or, MatchOption, Some, None, Option, Result, Ok, Err, MatchResult, IsErrAnd, refl, sym, ap, subst, ◌∙◌, append_assoc, arith}
use Rattle.std.specs.Prelude.{unsigned_abs}
use Rattle.std.specs.List.{AllZip}
use Rattle.std.proofs.lemmas.Int.{ints}
use Rattle.std.proofs.lemmas.List.{append-nil, length-append}
use Rattle.std.proofs.lemmas.Slice.Zip.{all_zipped_more}
use Rattle.std.proofs.Math.Seq.{get_or-append_seam, take-append_seam}
use Rattle.bim_model.specs.declared.geometry.Point.{Point}
use Rattle.bim_model.specs.declared.upload.Mode.{Mode}
use Rattle.bim_model.specs.Models.{farthest, IsInReach}
use Rattle.p21_values.specs.declared.value.Value21.{Value21}
use Rattle.p21_values.specs.Values.{items_of}
use Rattle.ifc_units.specs.declared.scale.Scale.{Scale}
use Rattle.ifc_units.specs.declared.length_error.GridFault.{GridFault}
use Rattle.ifc_units.specs.declared.length_error.LengthError.{LengthError}
use Rattle.ifc_units.specs.declared.length_error.LengthError.TheVariants as error
use Rattle.ifc_units.specs.Lengths.{reach, IsLength, LengthRefused, HasLength, FirstRefused, IsPoint, PointRefused, ArePoints, PointsRefused, Fails}
use Rattle.ifc_units.proofs.LengthFacts.{one_length, length_apart, one_length_fault}
use Rattle.ifc_units.proofs.Firsts.{never_refused, one_first, one_row, fails_here}
use Rattle.ifc_units.specs.LengthRefusals.{fault_in}

-- points are equal by their coordinates
pub same_point : (p q : Point) → p.x ≡ q.x → p.y ≡ q.y → p.z ≡ q.z → p ≡ q
same_point p q e f g = let r : Point = record { x = q.x; y = q.y; z = q.z } in let h : record { x = p.x; y = p.y; z = p.z } ≡ r = rw (e, f, g) refl in h

abbrev pub coordinates : Point → List ℤ
coordinates p = p.x ∷ p.y ∷ p.z ∷ []

abbrev pub Lengths : Scale → Mode → List Value21 → List ℤ → Type 0
Lengths s mode = AllZip (IsLength s mode)

abbrev pub Refusal : Scale → Mode → List Value21 → GridFault → Type 0
Refusal s mode = FirstRefused (HasLength s mode) (LengthRefused s mode)

-- by the three values of a list

lengths_of : (s : Scale) (mode : Mode) (v a b c : Value21) (p : Point) → items_of v ≡ Some (a ∷ b ∷ c ∷ []) → IsPoint s mode v p → Lengths s mode (a ∷ b ∷ c ∷ []) (coordinates p)
lengths_of s mode v a b c p e h =
    let same : h.a ∷ h.b ∷ h.c ∷ [] ≡ a ∷ b ∷ c ∷ [] = (let t = h.three in cc) in
    let are : Lengths s mode (h.a ∷ h.b ∷ h.c ∷ []) (coordinates p) = (h.x, (h.y, (h.z, tt))) in
    subst (λ vs. Lengths s mode vs (coordinates p)) same are

refusal_of : (s : Scale) (mode : Mode) (v a b c : Value21) (f : GridFault) → items_of v ≡ Some (a ∷ b ∷ c ∷ []) → PointRefused s mode v f → Refusal s mode (a ∷ b ∷ c ∷ []) f
refusal_of s mode v a b c f e h =
    let same : h.a ∷ h.b ∷ h.c ∷ [] ≡ a ∷ b ∷ c ∷ [] = (let t = h.three in cc) in
    subst (λ vs. Refusal s mode vs f) same h.first

pub point_here : (s : Scale) (mode : Mode) (v a b c : Value21) (p : Point) → items_of v ≡ Some (a ∷ b ∷ c ∷ []) → Lengths s mode (a ∷ b ∷ c ∷ []) (coordinates p) → IsPoint s mode v p
point_here s mode v a b c p e h = record { a = a; b = b; c = c; three = e; x = h.0; y = h.1.0; z = h.1.1.0 }

pub point_fails : (s : Scale) (mode : Mode) (v a b c : Value21) (e : LengthError) → items_of v ≡ Some (a ∷ b ∷ c ∷ []) → Fails (Lengths s mode (a ∷ b ∷ c ∷ [])) (Refusal s mode (a ∷ b ∷ c ∷ [])) e
    → Fails (IsPoint s mode v) (PointRefused s mode v) e
point_fails s mode v a b c (error.Refused f) is h = record { a = a; b = b; c = c; three = is; first = h }
point_fails s mode v a b c error.Unread is h = record {
  none = λ p k. h.none (coordinates p) (lengths_of s mode v a b c p is k);
  unrefused = λ f k. h.unrefused f (refusal_of s mode v a b c f is k);
}

-- the three lengths one after another

pub point_error : (s : Scale) (mode : Mode) (a b c : Value21) (r : Result Point LengthError) (e : LengthError) → IsErrAnd r (λ x. x ≡ e) → Fails (Lengths s mode (a ∷ b ∷ c ∷ [])) (Refusal s mode (a ∷ b ∷ c ∷ [])) e
    → MatchResult r (λ p. Lengths s mode (a ∷ b ∷ c ∷ []) (coordinates p)) (Fails (Lengths s mode (a ∷ b ∷ c ∷ [])) (Refusal s mode (a ∷ b ∷ c ∷ [])))
point_error s mode a b c (Ok p) e is h = absurd is
point_error s mode a b c (Err x) e is h = rw is h

pub first_fails : (s : Scale) (mode : Mode) (a b c : Value21) (e : LengthError) → Fails (IsLength s mode a) (LengthRefused s mode a) e → Fails (Lengths s mode (a ∷ b ∷ c ∷ [])) (Refusal s mode (a ∷ b ∷ c ∷ [])) e
first_fails s mode a b c e h = fails_here (IsLength s mode) (LengthRefused s mode) (length_apart s mode) (a ∷ b ∷ c ∷ []) 0 [] a e (omega arith) refl tt h

pub second_fails : (s : Scale) (mode : Mode) (a b c : Value21) (x : ℤ) (e : LengthError) → IsLength s mode a x → Fails (IsLength s mode b) (LengthRefused s mode b) e → Fails (Lengths s mode (a ∷ b ∷ c ∷ [])) (Refusal s mode (a ∷ b ∷ c ∷ [])) e
second_fails s mode a b c x e at h = fails_here (IsLength s mode) (LengthRefused s mode) (length_apart s mode) (a ∷ b ∷ c ∷ []) 1 (x ∷ []) b e (omega arith) refl (at, tt) h

pub third_fails : (s : Scale) (mode : Mode) (a b c : Value21) (x y : ℤ) (e : LengthError) → IsLength s mode a x → IsLength s mode b y → Fails (IsLength s mode c) (LengthRefused s mode c) e → Fails (Lengths s mode (a ∷ b ∷ c ∷ [])) (Refusal s mode (a ∷ b ∷ c ∷ [])) e
third_fails s mode a b c x y e at up h = fails_here (IsLength s mode) (LengthRefused s mode) (length_apart s mode) (a ∷ b ∷ c ∷ []) 2 (x ∷ y ∷ []) c e (omega arith) refl (at, (up, tt)) h

pub point_match : (s : Scale) (mode : Mode) (v a b c : Value21) (r : Result Point LengthError) → items_of v ≡ Some (a ∷ b ∷ c ∷ [])
    → MatchResult r (λ p. Lengths s mode (a ∷ b ∷ c ∷ []) (coordinates p)) (Fails (Lengths s mode (a ∷ b ∷ c ∷ [])) (Refusal s mode (a ∷ b ∷ c ∷ [])))
    → MatchResult r (IsPoint s mode v) (Fails (IsPoint s mode v) (PointRefused s mode v))
point_match s mode v a b c (Ok p) e h = point_here s mode v a b c p e h
point_match s mode v a b c (Err x) e h = point_fails s mode v a b c x e h

-- one point

pub one_point : (s : Scale) (mode : Mode) (v : Value21) (p q : Point) → IsPoint s mode v p → IsPoint s mode v q → p ≡ q
one_point s mode v p q h k =
    let l = lengths_of s mode v k.a k.b k.c p k.three h in
    same_point p q (one_length s mode k.a p.x q.x l.0 k.x) (one_length s mode k.b p.y q.y l.1.0 k.y) (one_length s mode k.c p.z q.z l.1.1.0 k.z)

pub point_apart : (s : Scale) (mode : Mode) (v : Value21) (p : Point) (f : GridFault) → IsPoint s mode v p → PointRefused s mode v f → ⊥
point_apart s mode v p f h k =
    never_refused (IsLength s mode) (LengthRefused s mode) (length_apart s mode) (k.a ∷ k.b ∷ k.c ∷ []) (coordinates p) f (lengths_of s mode v k.a k.b k.c p k.three h) k.first

pub one_point_fault : (s : Scale) (mode : Mode) (v : Value21) (f g : GridFault) → PointRefused s mode v f → PointRefused s mode v g → f ≡ g
one_point_fault s mode v f g h k =
    one_first (IsLength s mode) (LengthRefused s mode) (length_apart s mode) (one_length_fault s mode) (k.a ∷ k.b ∷ k.c ∷ []) f g (refusal_of s mode v k.a k.b k.c f k.three h) k.first

near_low : (n : ℤ) → unsigned_abs n ≤ reach → (pos 0 -ℤ farthest) ≤ℤ n
near_low n h = omega (arith, ints, h)

near_high : (n : ℤ) → unsigned_abs n ≤ reach → n ≤ℤ farthest
near_high n h = omega (arith, ints, h)

pub point_near : (s : Scale) (mode : Mode) (v : Value21) (p : Point) → IsPoint s mode v p → IsInReach p
point_near s mode v p h = record {
  x_low = near_low p.x h.x.near;
  x_high = near_high p.x h.x.near;
  y_low = near_low p.y h.y.near;
  y_high = near_high p.y h.y.near;
  z_low = near_low p.z h.z.near;
  z_high = near_high p.z h.z.near;
}

-- one list of points

pub one_points : (s : Scale) (mode : Mode) (vs : List Value21) (ps qs : List Point) → ArePoints s mode vs ps → ArePoints s mode vs qs → ps ≡ qs
one_points s mode = one_row (IsPoint s mode) (PointRefused s mode) (one_point s mode)

pub points_apart : (s : Scale) (mode : Mode) (vs : List Value21) (ps : List Point) (f : GridFault) → ArePoints s mode vs ps → PointsRefused s mode vs f → ⊥
points_apart s mode = never_refused (IsPoint s mode) (PointRefused s mode) (point_apart s mode)

pub one_points_fault : (s : Scale) (mode : Mode) (vs : List Value21) (f g : GridFault) → PointsRefused s mode vs f → PointsRefused s mode vs g → f ≡ g
one_points_fault s mode = one_first (IsPoint s mode) (PointRefused s mode) (point_apart s mode) (one_point_fault s mode)

-- a list of points, one after another

-- values that are left behind others that are those points
abbrev pub IsBehind : Scale → Mode → List Value21 → List Point → List Value21 → Type 0
IsBehind s mode vs ps left = (given : List Value21) × (vs ≡ given ++ left) × ArePoints s mode given ps

pub points_fail : (s : Scale) (mode : Mode) (vs left rest : List Value21) (ps : List Point) (v : Value21) (e : LengthError) → IsBehind s mode vs ps left → left ≡ v ∷ rest
    → Fails (IsPoint s mode v) (PointRefused s mode v) e → Fails (ArePoints s mode vs) (PointsRefused s mode vs) e
points_fail s mode vs left rest ps v e b next h =
    let whole : vs ≡ b.0 ++ v ∷ rest = b.1 ∙ ap (λ ys. b.0 ++ ys) next in
    let size : length vs ≡ length b.0 + length (v ∷ rest) = ap length whole ∙ length-append b.0 (v ∷ rest) in
    let there : v ≡ get_or vs (length b.0) v = sym (ap (λ ys. get_or ys (length b.0) v) whole ∙ get_or-append_seam b.0 v rest v) in
    let front : take (length b.0) vs ≡ b.0 = ap (λ ys. take (length b.0) ys) whole ∙ take-append_seam b.0 (v ∷ rest) in
    fails_here (IsPoint s mode) (PointRefused s mode) (point_apart s mode) vs (length b.0) ps v e (omega (arith, size)) there (subst (λ z. ArePoints s mode z ps) (sym front) b.2) h

pub points_more : (s : Scale) (mode : Mode) (vs left rest : List Value21) (old new : List Point) (v : Value21) (p : Point) → IsBehind s mode vs old left → left ≡ v ∷ rest → IsPoint s mode v p → new ≡ old ++ p ∷ []
    → IsBehind s mode vs new rest
points_more s mode vs left rest old new v p b next is grown =
    (b.0 ++ v ∷ [], b.1 ∙ ap (λ ys. b.0 ++ ys) next ∙ sym (append_assoc b.0 (v ∷ []) rest), rw grown (all_zipped_more (IsPoint s mode) b.0 old v p b.2 is))

pub points_over : (s : Scale) (mode : Mode) (vs left : List Value21) (ps : List Point) → IsBehind s mode vs ps left → left ≡ [] → ArePoints s mode vs ps
points_over s mode vs left ps b none = subst (λ z. ArePoints s mode z ps) (sym (b.1 ∙ ap (λ ys. b.0 ++ ys) none ∙ append-nil b.0)) b.2

pub fault_told : (s : Scale) (mode : Mode) (vs : List Value21) (e : LengthError) (r : Option GridFault) → r ≡ fault_in e → Fails (ArePoints s mode vs) (PointsRefused s mode vs) e
    → MatchOption r ((f : GridFault) → PointsRefused s mode vs f → ⊥) (PointsRefused s mode vs)
fault_told s mode vs error.Unread r is h = rw is h.unrefused
fault_told s mode vs (error.Refused f) r is h = rw is h

pub never_told : (s : Scale) (mode : Mode) (vs left : List Value21) (ps : List Point) → IsBehind s mode vs ps left → left ≡ [] → (f : GridFault) → PointsRefused s mode vs f → ⊥
never_told s mode vs left ps b none f h = points_apart s mode vs ps f (points_over s mode vs left ps b none) h

-- a result that was matched
pub matched : {A E : Type 0} (P : A → Type 0) (Q : E → Type 0) (r t : Result A E) → r ≡ t → MatchResult r P Q → MatchResult t P Q
matched P Q r t e h = rw (← e) h

-- there is none
pub none_left : {A : Type 0} (P : Type 0) (Q : A → Type 0) (r : Option A) → MatchOption r P Q → ((x : A) → r ≡ Some x → ⊥) → P
none_left P Q None h other = h
none_left P Q (Some x) h other = absurd (other x refl)
