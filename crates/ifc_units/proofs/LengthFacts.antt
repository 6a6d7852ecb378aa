-- A value is one length at most, or has one fault.
use Rattle.std.proofs.Common.{◌≡◌, ℕ, ◌<◌, ◌≤◌, ℤ, List, Some, refl, sym, subst, arith}
use Rattle.std.specs.Prelude.{unsigned_abs}
use Rattle.bim_model.specs.declared.upload.Mode.{Mode}
use Rattle.bim_text.specs.declared.decimal.Decimal.{Decimal}
use Rattle.bim_text.specs.ScaledNumbers.{Scaled}
use Rattle.bim_text.specs.Decimals.{Reads}
use Rattle.bim_text.proofs.Unique.{one_decimal}
use Rattle.p21_values.specs.declared.value.Value21.{Value21}
use Rattle.p21_values.specs.Values.{number_of}
use Rattle.ifc_units.specs.declared.scale.Scale.{Scale}
use Rattle.ifc_units.specs.declared.length_error.GridFault.{GridFault}
use Rattle.ifc_units.specs.declared.length_error.GridFault.TheVariants.{OffGrid, TooFar}
use Rattle.ifc_units.specs.Grid.{IsGridNumber, length_of}
use Rattle.ifc_units.specs.Lengths.{units, reach, IsLength, HasFault, LengthRefused}
use Rattle.ifc_units.proofs.Unique.{unique}

same_length : (d e : Decimal) (s : Scale) → d.negative ≡ e.negative → d.digits ≡ e.digits → d.exp ≡ e.exp → length_of d s ≡ length_of e s
same_length d e s a b c = rw (a, b, c) refl

-- a value is a length in one way
pub one_scaled : (v : Value21) (s : Scale) (bs cs : List ℕ) (d e : Decimal) → number_of v ≡ Some bs → number_of v ≡ Some cs → Reads bs d → Reads cs e → length_of d s ≡ length_of e s
one_scaled v s bs cs d e n m h k =
    let same : bs ≡ cs = cc in
    let o = one_decimal cs d e (subst (λ t. Reads t d) same h) k in
    same_length d e s o.0 o.1 o.2

few : units < 500
few = omega arith

pub no_fault : (mode : Mode) (x : Scaled) (g : ℤ) (f : GridFault) → IsGridNumber mode units x g → unsigned_abs g ≤ reach → HasFault mode x f → ⊥
no_fault mode x g OffGrid is near h = h g is
no_fault mode x g TooFar is near h =
    let far : reach < unsigned_abs g = subst (λ n. reach < unsigned_abs n) (sym (unique mode units x g h.0 few is h.1)) h.2 in
    omega (arith, near, far)

pub one_fault : (mode : Mode) (x : Scaled) (f g : GridFault) → HasFault mode x f → HasFault mode x g → f ≡ g
one_fault mode x OffGrid OffGrid h k = refl
one_fault mode x OffGrid TooFar h k = absurd (h k.0 k.1)
one_fault mode x TooFar OffGrid h k = absurd (k h.0 h.1)
one_fault mode x TooFar TooFar h k = refl

pub one_length : (s : Scale) (mode : Mode) (v : Value21) (g h : ℤ) → IsLength s mode v g → IsLength s mode v h → g ≡ h
one_length s mode v g h a b =
    let same = one_scaled v s a.bytes b.bytes a.decimal b.decimal a.number b.number a.read b.read in
    unique mode units (length_of b.decimal s) g h few (subst (λ x. IsGridNumber mode units x g) same a.grid) b.grid

pub length_apart : (s : Scale) (mode : Mode) (v : Value21) (g : ℤ) (f : GridFault) → IsLength s mode v g → LengthRefused s mode v f → ⊥
length_apart s mode v g f a b =
    let same = one_scaled v s b.bytes a.bytes b.decimal a.decimal b.number a.number b.read a.read in
    no_fault mode (length_of a.decimal s) g f a.grid a.near (subst (λ x. HasFault mode x f) same b.refused)

pub one_length_fault : (s : Scale) (mode : Mode) (v : Value21) (f g : GridFault) → LengthRefused s mode v f → LengthRefused s mode v g → f ≡ g
one_length_fault s mode v f g a b =
    let same = one_scaled v s a.bytes b.bytes a.decimal b.decimal a.number b.number a.read b.read in
    one_fault mode (length_of b.decimal s) f g (subst (λ x. HasFault mode x f) same a.refused) b.refused

-- what is read of a value

pub length_here : (s : Scale) (mode : Mode) (v : Value21) (bs : List ℕ) (d : Decimal) (g h : ℤ) → number_of v ≡ Some bs → Reads bs d → IsGridNumber mode units (length_of d s) g → unsigned_abs g ≤ reach → h ≡ g → IsLength s mode v h
length_here s mode v bs d g h n r is near e = rw e (record { bytes = bs; number = n; decimal = d; read = r; grid = is; near = near })

pub length_refused : (s : Scale) (mode : Mode) (v : Value21) (bs : List ℕ) (d : Decimal) (f : GridFault) → number_of v ≡ Some bs → Reads bs d
    → (f ≡ OffGrid → HasFault mode (length_of d s) OffGrid) → (f ≡ TooFar → HasFault mode (length_of d s) TooFar) → LengthRefused s mode v f
length_refused s mode v bs d OffGrid n r off far = record { bytes = bs; number = n; decimal = d; read = r; refused = off refl }
length_refused s mode v bs d TooFar n r off far = record { bytes = bs; number = n; decimal = d; read = r; refused = far refl }
