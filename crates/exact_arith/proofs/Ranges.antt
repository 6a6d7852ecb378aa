-- What integer code computes: the value of each number, and a bound on its size.
--
-- A goal on code has each step as the register gives it back, `in_64` or `in_128` of a sum of such steps.
-- `Kept e v m` says that the computed e is the plain number v, and that v is at most m in size. An answer
-- mirrors the code: `value_kept` at an argument, `product_kept`, `sum_kept` and `difference_kept` at an
-- operation, `kept_128` where a result is stored. The bound m computes as a numeral, so `tt` proves that it
-- has room. Then `fits_128` answers an overflow goal, `.same` a goal on the value, `bounded` one on its
-- size, and `at_most`, `above`, `less`, `not_less` and `test_kept` turn a test of computed numbers into a
-- fact of plain ones.
use Rattle.std.proofs.Common.{ℕ, ◌+◌, ◌*◌, ◌^◌, ◌≡◌, ◌≤◌, arith, ℤ, pos, ◌+ℤ◌, ◌-ℤ◌, ◌*ℤ◌, ◌≤ℤ◌, ◌<ℤ◌, FitsSigned, to_z, of_z, w64, refl, sym, ap, ◌∙◌, subst, true, false, IsTrue, ◌↔◌}
use Rattle.std.specs.Prelude.{unsigned_abs}
use Rattle.std.proofs.lemmas.Int.{ints, to_z-of_z, to_z_pos, fits_signed_from_abs, unsigned_abs-mul}
use Rattle.std.proofs.lemmas.Nat.{mul-le}
use mir.Syntax.{w128}
use lib.Signed.{le_z, lt_z}
use lib.Dec.{T, ltb, ltb→lt}
use borrow.Author.Differences.{true_is_le, le_out}

-- ---- sizes of sums and products
pub abs_add : (a b : ℤ) → unsigned_abs (a +ℤ b) ≤ unsigned_abs a + unsigned_abs b
abs_add a b = omega (arith, ints)

pub abs_sub : (a b : ℤ) → unsigned_abs (a -ℤ b) ≤ unsigned_abs a + unsigned_abs b
abs_sub a b = omega (arith, ints)

pub abs_mul : (a b : ℤ) (m n : ℕ) → unsigned_abs a ≤ m → unsigned_abs b ≤ n → unsigned_abs (a *ℤ b) ≤ m * n
abs_mul a b m n h k = rw (unsigned_abs-mul a b) (mul-le (unsigned_abs a) (unsigned_abs b) m n h k)

-- ---- a number as a register of 64 or of 128 bits gives it back
abbrev pub in_64 : ℤ → ℤ
in_64 a = to_z w64 (of_z w64 a)

abbrev pub in_128 : ℤ → ℤ
in_128 a = to_z w128 (of_z w128 a)

-- the bound m leaves room in a signed register
abbrev pub Room64 : ℕ → Type 0
Room64 m = T (ltb m (2 ^ 63))

abbrev pub Room128 : ℕ → Type 0
Room128 m = T (ltb m (2 ^ 127))

-- ---- a computed number e, its value v, and a bound m on the value
pub record Kept (e v : ℤ) (m : ℕ) : Type 0 where
  pub same : e ≡ v
  pub small : unsigned_abs v ≤ m

pub bounded : {e v : ℤ} {m : ℕ} → Kept e v m → unsigned_abs e ≤ m
bounded {e} {v} {m} k = subst (λ (x : ℤ). unsigned_abs x ≤ m) (sym k.same) k.small

pub renamed : {e v w : ℤ} {m : ℕ} → Kept e v m → v ≡ w → Kept e w m
renamed {e} {v} {w} {m} k p = record { same = k.same ∙ p; small = subst (λ (x : ℤ). unsigned_abs x ≤ m) p k.small }

-- ---- an argument, and what operations make
pub value_kept : (a : ℤ) {m : ℕ} → unsigned_abs a ≤ m → Kept a a m
value_kept a h = record { same = refl; small = h }

pub zero_kept : Kept (pos 0) (pos 0) 0
zero_kept = value_kept (pos 0) (omega (arith, ints))

pub product_kept : {e v f w : ℤ} {m n : ℕ} → Kept e v m → Kept f w n → Kept (e *ℤ f) (v *ℤ w) (m * n)
product_kept {e} {v} {f} {w} {m} {n} k l = record { same = ap (λ (t : ℤ). t *ℤ f) k.same ∙ ap (λ (t : ℤ). v *ℤ t) l.same; small = abs_mul v w m n k.small l.small }

pub sum_kept : {e v f w : ℤ} {m n : ℕ} → Kept e v m → Kept f w n → Kept (e +ℤ f) (v +ℤ w) (m + n)
sum_kept {e} {v} {f} {w} {m} {n} k l = record { same = ap (λ (t : ℤ). t +ℤ f) k.same ∙ ap (λ (t : ℤ). v +ℤ t) l.same; small = let s = abs_add v w in omega (arith, k.small, l.small) }

pub difference_kept : {e v f w : ℤ} {m n : ℕ} → Kept e v m → Kept f w n → Kept (e -ℤ f) (v -ℤ w) (m + n)
difference_kept {e} {v} {f} {w} {m} {n} k l = record { same = ap (λ (t : ℤ). t -ℤ f) k.same ∙ ap (λ (t : ℤ). v -ℤ t) l.same; small = let s = abs_sub v w in omega (arith, k.small, l.small) }

-- ---- 128 bits
pub fits_128 : {e v : ℤ} {m : ℕ} → Kept e v m → Room128 m → FitsSigned w128 e
fits_128 {e} {v} {m} k r = rw (k.same) (fits_signed_from_abs w128 v (omega (arith, ltb→lt m (2 ^ 127) r, k.small)))

pub kept_128 : {e v : ℤ} {m : ℕ} → Kept e v m → Room128 m → Kept (in_128 e) v m
kept_128 {e} {v} {m} k r = record { same = to_z-of_z w128 e (fits_128 k r) ∙ k.same; small = k.small }

pub natural_kept : (d : ℕ) {m : ℕ} → d ≤ m → Room128 m → Kept (to_z w128 d) (pos d) m
natural_kept d {m} h r = record { same = to_z_pos w128 d (omega (arith, ltb→lt m (2 ^ 127) r)); small = h }

-- ---- 64 bits
pub fits_64 : {e v : ℤ} {m : ℕ} → Kept e v m → Room64 m → FitsSigned w64 e
fits_64 {e} {v} {m} k r = rw (k.same) (fits_signed_from_abs w64 v (omega (arith, ltb→lt m (2 ^ 63) r, k.small)))

pub kept_64 : {e v : ℤ} {m : ℕ} → Kept e v m → Room64 m → Kept (in_64 e) v m
kept_64 {e} {v} {m} k r = record { same = to_z-of_z w64 e (fits_64 k r) ∙ k.same; small = k.small }

-- a number of a field or an argument of 64 bits
pub value_kept_64 : (a : ℤ) {m : ℕ} → unsigned_abs a ≤ m → Room64 m → Kept (in_64 a) a m
value_kept_64 a h r = kept_64 (value_kept a h) r

pub natural_kept_64 : (d : ℕ) {m : ℕ} → d ≤ m → Room64 m → Kept (to_z w64 d) (pos d) m
natural_kept_64 d {m} h r = record { same = to_z_pos w64 d (omega (arith, ltb→lt m (2 ^ 63) r)); small = h }

-- an argument as the callee sees it
pub same_64 : (a : ℤ) {m : ℕ} → unsigned_abs a ≤ m → Room64 m → in_64 a ≡ a
same_64 a h r = (value_kept_64 a h r).same

pub same_128 : (a : ℤ) {m : ℕ} → unsigned_abs a ≤ m → Room128 m → in_128 a ≡ a
same_128 a h r = (kept_128 (value_kept a h) r).same

-- ---- what a test of two computed numbers says of their values
test_yes : (e f : ℤ) → IsTrue (le_z e f) → e ≤ℤ f
test_yes e f h = omega (arith, ints, h)

test_no : (e f : ℤ) → le_z e f ≡ false → f <ℤ e
test_no e f h = omega (arith, ints, h)

no_test : (e f : ℤ) → e ≤ℤ f → IsTrue (le_z e f)
no_test e f h = sym (true_is_le e f (le_out e f h))

less_yes : (e f : ℤ) → lt_z e f ≡ true → e <ℤ f
less_yes e f h = omega (arith, ints, h)

less_no : (e f : ℤ) → lt_z e f ≡ false → f ≤ℤ e
less_no e f h = omega (arith, ints, h)

-- the test is exactly the fact P that the order of the values is
pub test_kept : {e v f w : ℤ} {m n : ℕ} {P : Type 0} → Kept e v m → Kept f w n → (v ≤ℤ w) ↔ P → IsTrue (le_z e f) ↔ P
test_kept {e} {v} {f} {w} k l q = (
  λ h. q.0 (subst (λ (x : ℤ). x ≤ℤ w) k.same (subst (λ (y : ℤ). e ≤ℤ y) l.same (test_yes e f h))),
  λ p. no_test e f (subst (λ (x : ℤ). x ≤ℤ f) (sym k.same) (subst (λ (y : ℤ). v ≤ℤ y) (sym l.same) (q.1 p))),
)

pub at_most : {e v f w : ℤ} {m n : ℕ} → Kept e v m → Kept f w n → le_z e f ≡ true → v ≤ℤ w
at_most {e} {v} {f} {w} k l h = subst (λ (x : ℤ). x ≤ℤ w) k.same (subst (λ (y : ℤ). e ≤ℤ y) l.same (test_yes e f h))

pub above : {e v f w : ℤ} {m n : ℕ} → Kept e v m → Kept f w n → le_z e f ≡ false → w <ℤ v
above {e} {v} {f} {w} k l h = subst (λ (x : ℤ). w <ℤ x) k.same (subst (λ (y : ℤ). y <ℤ e) l.same (test_no e f h))

pub less : {e v f w : ℤ} {m n : ℕ} → Kept e v m → Kept f w n → lt_z e f ≡ true → v <ℤ w
less {e} {v} {f} {w} k l h = subst (λ (x : ℤ). x <ℤ w) k.same (subst (λ (y : ℤ). e <ℤ y) l.same (less_yes e f h))

pub not_less : {e v f w : ℤ} {m n : ℕ} → Kept e v m → Kept f w n → lt_z e f ≡ false → w ≤ℤ v
not_less {e} {v} {f} {w} k l h = subst (λ (x : ℤ). w ≤ℤ x) k.same (subst (λ (y : ℤ). y ≤ℤ e) l.same (less_no e f h))

-- a comparison of products, in other names for its factors
pub squares_kept : {e v f w : ℤ} {m n : ℕ} {P : Type 0} (x : ℤ) → Kept e v m → Kept f w n → P ↔ ((e *ℤ e) ≤ℤ (x *ℤ f)) → P ↔ ((v *ℤ v) ≤ℤ (x *ℤ w))
squares_kept {e} {v} {f} {w} {P = P} x k l q =
    subst (λ (y : ℤ). P ↔ ((y *ℤ y) ≤ℤ (x *ℤ w))) k.same (subst (λ (y : ℤ). P ↔ ((e *ℤ e) ≤ℤ (x *ℤ y))) l.same q)

pub difference_of_products : (a b c d p q r s : ℤ) → a ≡ p → b ≡ q → c ≡ r → d ≡ s → a *ℤ b -ℤ c *ℤ d ≡ p *ℤ q -ℤ r *ℤ s
difference_of_products a b c d p q r s e f g h =
    ap (λ (x : ℤ). x *ℤ b -ℤ c *ℤ d) e ∙ (ap (λ (x : ℤ). p *ℤ x -ℤ c *ℤ d) f ∙ (ap (λ (x : ℤ). p *ℤ q -ℤ x *ℤ d) g ∙ ap (λ (x : ℤ). p *ℤ q -ℤ r *ℤ x) h))
