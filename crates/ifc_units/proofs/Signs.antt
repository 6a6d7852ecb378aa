-- Sizes with their signs.
use Rattle.std.proofs.Common.{◌≡◌, ℕ, zero, suc, ◌+◌, ◌*◌, ◌^◌, ◌<◌, ◌≤◌, ◌⊎◌, inl, inr, Bool, true, false, not, ℤ, pos, negsuc, ◌-ℤ◌, ◌+ℤ◌, ◌*ℤ◌, refl, sym, ap, subst, ◌∙◌, arith}
use Rattle.std.specs.Prelude.{unsigned_abs}
use Rattle.std.proofs.Math.IntN.{*ℤ_comm}
use Rattle.std.proofs.lemmas.Int.{ints}
use Rattle.std.proofs.Math.Nat.{mul-le-mul_left}
use Rattle.bim_model.specs.declared.upload.Mode.{Mode}
use Rattle.bim_model.specs.declared.upload.Mode.TheVariants.{Exact, Snap}
use Rattle.bim_text.specs.ScaledNumbers.{signed, above, below}
use Rattle.bim_text.proofs.Powers.{signed_times, signed_size}
use Rattle.ifc_units.specs.declared.sizes.TheConstants.{UNITS, MOST}
use Rattle.ifc_units.specs.Grid.{gap, IsGridNumber}
use Rattle.ifc_units.specs.inner.RoundedLengths.{distance, IsSize, IsSizeOf}

-- the difference of two numbers of one sign, and of two signs
same_sign : (b : Bool) (m n : ℕ) → unsigned_abs (signed b m -ℤ signed b n) ≡ distance m n
same_sign false m n = omega (arith, ints)
same_sign true m n = omega (arith, ints)

other_sign : (b : Bool) (m n : ℕ) → unsigned_abs (signed b m -ℤ signed (not b) n) ≡ m + n
other_sign false m n = omega (arith, ints)
other_sign true m n = omega (arith, ints)

-- the gap between a length of the size n / d and a grid number, of the same sign
pub times_left : (u : ℕ) (b : Bool) (n : ℕ) → pos u *ℤ signed b n ≡ signed b (u * n)
times_left u b n = *ℤ_comm (pos u) (signed b n) ∙ signed_times b n u ∙ ap (signed b) (swap n u)
  where
    swap : (a c : ℕ) → a * c ≡ c * a
    swap a c = omega arith

pub gap_same : (u : ℕ) (b : Bool) (m g : ℕ) (p : ℤ) → gap u (record { number = signed b m; power = p }) (signed b g) ≡ distance (u * (m * 10 ^ above p)) (g * 10 ^ below p)
gap_same u b m g p =
    ap (λ (x : ℤ). unsigned_abs (pos u *ℤ x -ℤ signed b g *ℤ pos (10 ^ below p))) (signed_times b m (10 ^ above p))
    ∙ ap (λ (x : ℤ). unsigned_abs (x -ℤ signed b g *ℤ pos (10 ^ below p))) (times_left u b (m * 10 ^ above p))
    ∙ ap (λ (x : ℤ). unsigned_abs (signed b (u * (m * 10 ^ above p)) -ℤ x)) (signed_times b g (10 ^ below p))
    ∙ same_sign b (u * (m * 10 ^ above p)) (g * 10 ^ below p)

pub gap_other : (u : ℕ) (b : Bool) (m g : ℕ) (p : ℤ) → gap u (record { number = signed b m; power = p }) (signed (not b) g) ≡ u * (m * 10 ^ above p) + g * 10 ^ below p
gap_other u b m g p =
    ap (λ (x : ℤ). unsigned_abs (pos u *ℤ x -ℤ signed (not b) g *ℤ pos (10 ^ below p))) (signed_times b m (10 ^ above p))
    ∙ ap (λ (x : ℤ). unsigned_abs (x -ℤ signed (not b) g *ℤ pos (10 ^ below p))) (times_left u b (m * 10 ^ above p))
    ∙ ap (λ (x : ℤ). unsigned_abs (signed b (u * (m * 10 ^ above p)) -ℤ x)) (signed_times (not b) g (10 ^ below p))
    ∙ other_sign b (u * (m * 10 ^ above p)) (g * 10 ^ below p)

pub size_of : (b : Bool) (m : ℕ) (p : ℤ) → unsigned_abs (signed b m *ℤ pos (10 ^ above p)) ≡ m * 10 ^ above p
size_of b m p = ap unsigned_abs (signed_times b m (10 ^ above p)) ∙ signed_size b (m * 10 ^ above p)

-- a size is that of the grid number with the length's sign
pub signed_grid : (mode : Mode) (u : ℕ) (b : Bool) (m g : ℕ) (p : ℤ) → IsSize mode u (u * (m * 10 ^ above p)) (10 ^ below p) g
    → IsGridNumber mode u (record { number = signed b m; power = p }) (signed b g)
signed_grid Exact u b m g p h = omega (arith, gap_same u b m g p, h)
signed_grid Snap u b m g p h =
    let e = gap_same u b m g p in
    record {
      near = omega (arith, e, h.near);
      away = λ k. rw (size_of b m p, signed_size b g) (h.away (omega (arith, e, k)));
    }

-- a grid number of the other sign is at most nothing
signs : (b : Bool) (g : ℤ) → (g ≡ signed b (unsigned_abs g)) ⊎ ((k : ℕ) × (g ≡ signed (not b) (suc k)))
signs false (pos n) = inl refl
signs false (negsuc n) = inr (n, refl)
signs true (pos zero) = inl refl
signs true (pos (suc n)) = inr (n, refl)
signs true (negsuc n) = inl refl

pub grid_size : (u : ℕ) (b : Bool) (m : ℕ) (p g : ℤ) → u ≤ 1000 → ((n : ℕ) → IsSize Exact u (u * (m * 10 ^ above p)) (10 ^ below p) n → ⊥)
    → IsGridNumber Exact u (record { number = signed b m; power = p }) g → ⊥
grid_size u b m p g few none h = elim (signs b g) [
  | inl e ↦ (let x = rw e at h in none (unsigned_abs g) (omega (arith, gap_same u b m (unsigned_abs g) p, x)))
  | inr (k, e) ↦ (let x = rw e at h in
      absurd (omega (arith, gap_other u b m (suc k) p, x, mul-le-mul_left (10 ^ below p) few)))
]

-- the size of a whole number of millimetres, and of a part

whole_grid : (mode : Mode) (n : ℕ) → IsSize mode UNITS n 1 n
whole_grid Exact n = omega arith
whole_grid Snap n = record { near = omega arith; away = λ k. absurd (omega (arith, k)) }

pub whole_is : (mode : Mode) (m z g : ℕ) (p : ℤ) → p ≡ pos z → g ≡ UNITS * (m * 10 ^ z) → IsSizeOf mode p m g
unfolding IsSizeOf
whole_is mode m z g p e k = rw (e, k) (whole_grid mode (UNITS * (m * 10 ^ z)))

below_is : (p : ℤ) (z : ℕ) → p +ℤ pos z ≡ pos 0 → (above p ≡ 0) × (below p ≡ z)
below_is (pos n) z e = (omega (arith, ints, e), omega (arith, ints, e))
below_is (negsuc n) z e = (refl, omega (arith, ints, e))

part_places : (m : ℕ) (p : ℤ) → above p ≡ 0 → UNITS * m ≡ UNITS * (m * 10 ^ above p)
part_places m p a = rw a (omega arith)

pub part_is : (mode : Mode) (m z g : ℕ) (p : ℤ) → p +ℤ pos z ≡ pos 0 → IsSize mode UNITS (UNITS * m) (10 ^ z) g → IsSizeOf mode p m g
unfolding IsSizeOf
part_is mode m z g p e k =
    let a = below_is p z e in
    let one = subst (λ (n : ℕ). IsSize mode UNITS n (10 ^ z) g) (part_places m p a.0) k in
    subst (λ (n : ℕ). IsSize mode UNITS (UNITS * (m * 10 ^ above p)) (10 ^ n) g) (sym a.1) one

pub part_of : (mode : Mode) (m z g : ℕ) (p : ℤ) → p +ℤ pos z ≡ pos 0 → IsSizeOf mode p m g → IsSize mode UNITS (UNITS * m) (10 ^ z) g
unfolding IsSizeOf
part_of mode m z g p e k =
    let a = below_is p z e in
    let one = subst (λ (n : ℕ). IsSize mode UNITS (UNITS * (m * 10 ^ above p)) (10 ^ n) g) a.1 k in
    subst (λ (n : ℕ). IsSize mode UNITS n (10 ^ z) g) (sym (part_places m p a.0)) one

-- with the length's sign

pub grid_ok : (mode : Mode) (b : Bool) (m g : ℕ) (p r : ℤ) → IsSizeOf mode p m g → r ≡ signed b g → IsGridNumber mode UNITS (record { number = signed b m; power = p }) r
unfolding IsSizeOf
grid_ok mode b m g p r h e = subst (λ (x : ℤ). IsGridNumber mode UNITS (record { number = signed b m; power = p }) x) (sym e) (signed_grid mode UNITS b m g p h)

pub grid_off : (mode : Mode) (b : Bool) (m : ℕ) (p : ℤ) → mode ≡ Exact → ((n : ℕ) → IsSizeOf mode p m n → ⊥) → (g : ℤ) → IsGridNumber mode UNITS (record { number = signed b m; power = p }) g → ⊥
unfolding IsSizeOf
grid_off Exact b m p e none g h = grid_size UNITS b m p g (omega arith) none h
grid_off Snap b m p e none g h = absurd (cc)

pub grid_far : (mode : Mode) (b : Bool) (m : ℕ) (p : ℤ) → (g : ℕ) × IsSizeOf mode p m g × (MOST < g) → (g : ℤ) × IsGridNumber mode UNITS (record { number = signed b m; power = p }) g × (MOST < unsigned_abs g)
unfolding IsSizeOf
grid_far mode b m p (g, h, far) = (signed b g, signed_grid mode UNITS b m g p h, rw (signed_size b g) far)
