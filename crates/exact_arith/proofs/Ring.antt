-- Equations of whole numbers by computing.
--
-- `ring env a b refl` proves `meaning env a ≡ meaning env b`. Both sides are written as terms: `at n` is the
-- n-th number of env, `lit c` a literal, and ⊕ ⊖ ⊗ are the operations. `meaning` computes to the plain
-- statement, so the type of a lemma is written without terms. Both sides become polynomials in nested form,
-- and `refl` tests that their difference is zero: where it is refused, the equation is false.
-- Degree 8 in fifteen variables takes about a second.
use Rattle.std.proofs.Common.{ℕ, zero, suc, ◌*◌, ◌≡◌, Bool, true, false, List, [], ◌∷◌, refl, sym, ap, ◌∙◌, arith, ℤ, pos, negsuc, ◌+ℤ◌, ◌-ℤ◌, ◌*ℤ◌, cond}
use Rattle.std.proofs.lemmas.Int.{ints}
use borrow.Author.Differences.{up, down, product_is, sum_is_lem}

-- ---- laws of sums and products
pub mul-add : (a b c : ℤ) → a *ℤ (b +ℤ c) ≡ a *ℤ b +ℤ a *ℤ c
mul-add a b c =
    let h = sum_is_lem b c in
    let p = ap (λ (t : ℕ). up a * t) h in
    let q = ap (λ (t : ℕ). down a * t) h in
    omega (arith, ints, p, q)

pub mul_assoc : (a b c : ℤ) → (a *ℤ b) *ℤ c ≡ a *ℤ (b *ℤ c)
mul_assoc a b c =
    let ab = product_is a b in
    let bc = product_is b c in
    let p = ap (λ (t : ℕ). t * up c) ab.0 in
    let q = ap (λ (t : ℕ). t * down c) ab.0 in
    let r = ap (λ (t : ℕ). t * up c) ab.1 in
    let s = ap (λ (t : ℕ). t * down c) ab.1 in
    let u = ap (λ (t : ℕ). up a * t) bc.0 in
    let v = ap (λ (t : ℕ). up a * t) bc.1 in
    let w = ap (λ (t : ℕ). down a * t) bc.0 in
    let x = ap (λ (t : ℕ). down a * t) bc.1 in
    omega (arith, ints, p, q, r, s, u, v, w, x)

pub mul_comm : (a b : ℤ) → a *ℤ b ≡ b *ℤ a
mul_comm a b = omega (arith, ints)

pub add_comm : (a b : ℤ) → a +ℤ b ≡ b +ℤ a
add_comm a b = omega (arith, ints)

pub add_assoc : (a b c : ℤ) → (a +ℤ b) +ℤ c ≡ a +ℤ (b +ℤ c)
add_assoc a b c = omega (arith, ints)

-- four sums in another order
add-swap : (a b c d : ℤ) → (a +ℤ b) +ℤ (c +ℤ d) ≡ (a +ℤ c) +ℤ (b +ℤ d)
add-swap a b c d = omega (arith, ints)

-- ---- polynomials: `more p q` is p in the later variables, and the first variable times q
pub data Poly : Type 0 where
  num : ℤ → Poly
  more : Poly → Poly → Poly

abbrev pub head_or_zero : List ℤ → ℤ
head_or_zero [] = pos 0
head_or_zero (x ∷ xs) = x

abbrev pub tail_of : List ℤ → List ℤ
tail_of [] = []
tail_of (x ∷ xs) = xs

abbrev pub value : Poly → List ℤ → ℤ
value (num c) env = c
value (more p q) env = value p (tail_of env) +ℤ head_or_zero env *ℤ value q env

abbrev pub add_all : ℤ → Poly → Poly
add_all c (num b) = num (c +ℤ b)
add_all c (more r s) = more (add_all c r) s

abbrev pub add_num : ℤ → Poly → Poly
add_num (pos zero) q = q
add_num (pos (suc n)) q = add_all (pos (suc n)) q
add_num (negsuc n) q = add_all (negsuc n) q

abbrev pub plus : Poly → Poly → Poly
plus (num a) q = add_num a q
plus (more p q) (num b) = add_num b (more p q)
plus (more p q) (more r s) = more (plus p r) (plus q s)

abbrev pub scale_all : ℤ → Poly → Poly
scale_all c (num b) = num (c *ℤ b)
scale_all c (more r s) = more (scale_all c r) (scale_all c s)

abbrev pub scale : ℤ → Poly → Poly
scale (pos zero) q = num (pos 0)
scale (pos (suc n)) q = scale_all (pos (suc n)) q
scale (negsuc n) q = scale_all (negsuc n) q

abbrev pub deepen : (Poly → Poly) → Poly → Poly
deepen f (num (pos zero)) = num (pos 0)
deepen f (num (pos (suc n))) = more (f (num (pos (suc n)))) (num (pos 0))
deepen f (num (negsuc n)) = more (f (num (negsuc n))) (num (pos 0))
deepen f (more r s) = more (f r) (deepen f s)

-- nothing of a first factor that is 0
abbrev pub lift : Poly → (Poly → Poly) → Poly → Poly
lift (num (pos zero)) f s = num (pos 0)
lift (num (pos (suc n))) f s = deepen f s
lift (num (negsuc n)) f s = deepen f s
lift (more p q) f s = deepen f s

abbrev pub times : Poly → Poly → Poly
times (num a) q = scale a q
times (more p q) (num b) = scale b (more p q)
times (more p q) (more r s) = more (times p r) (plus (lift p (times p) s) (times q (more r s)))

add-mul : (a b c : ℤ) → (a +ℤ b) *ℤ c ≡ a *ℤ c +ℤ b *ℤ c
add-mul a b c = mul_comm (a +ℤ b) c ∙ mul-add c a b ∙ (rw (mul_comm c a, mul_comm c b))

both_more : (p r x q s : ℤ) → (p +ℤ r) +ℤ x *ℤ (q +ℤ s) ≡ (p +ℤ x *ℤ q) +ℤ (r +ℤ x *ℤ s)
both_more p r x q s = rw (mul-add x q s) (add-swap p r (x *ℤ q) (x *ℤ s))

add_all_is : (c : ℤ) (q : Poly) (env : List ℤ) → value (add_all c q) env ≡ c +ℤ value q env
add_all_is c (num b) env = refl
add_all_is c (more r s) env =
    ap (λ (t : ℤ). t +ℤ head_or_zero env *ℤ value s env) (add_all_is c r (tail_of env)) ∙ add_assoc c (value r (tail_of env)) (head_or_zero env *ℤ value s env)

zero_add : (a : ℤ) → a ≡ pos 0 +ℤ a
zero_add a = omega (arith, ints)

add_num_is : (c : ℤ) (q : Poly) (env : List ℤ) → value (add_num c q) env ≡ c +ℤ value q env
add_num_is (pos zero) q env = zero_add (value q env)
add_num_is (pos (suc n)) q env = add_all_is (pos (suc n)) q env
add_num_is (negsuc n) q env = add_all_is (negsuc n) q env

plus_is : (p q : Poly) (env : List ℤ) → value (plus p q) env ≡ value p env +ℤ value q env
plus_is (num a) q env = add_num_is a q env
plus_is (more p q) (num b) env = add_num_is b (more p q) env ∙ add_comm b (value (more p q) env)
plus_is (more p q) (more r s) env =
    rw (plus_is p r (tail_of env), plus_is q s env) (both_more (value p (tail_of env)) (value r (tail_of env)) (head_or_zero env) (value q env) (value s env))

deepened : (w b x : ℤ) → w *ℤ b +ℤ x *ℤ pos 0 ≡ w *ℤ b
deepened w b x = omega (arith, ints)

mul-left_comm : (a b c : ℤ) → a *ℤ (b *ℤ c) ≡ b *ℤ (a *ℤ c)
mul-left_comm a b c = sym (mul_assoc a b c) ∙ ap (λ (t : ℤ). t *ℤ c) (mul_comm a b) ∙ mul_assoc b a c

deepen_more : (w r x s : ℤ) → w *ℤ r +ℤ x *ℤ (w *ℤ s) ≡ w *ℤ (r +ℤ x *ℤ s)
deepen_more w r x s = sym (mul-add w r (x *ℤ s) ∙ ap (λ (t : ℤ). w *ℤ r +ℤ t) (mul-left_comm w x s))

times_nothing : (w : ℤ) → pos 0 ≡ w *ℤ pos 0
times_nothing w = omega (arith, ints)

nothing_times : (w : ℤ) → pos 0 ≡ pos 0 *ℤ w
nothing_times w = omega (arith, ints)

deepen_is : (f : Poly → Poly) (w : ℤ) (env : List ℤ) → ((t : Poly) → value (f t) (tail_of env) ≡ w *ℤ value t (tail_of env)) → (t : Poly) → value (deepen f t) env ≡ w *ℤ value t env
deepen_is f w env h (num (pos zero)) = times_nothing w
deepen_is f w env h (num (pos (suc n))) = rw (h (num (pos (suc n)))) (deepened w (pos (suc n)) (head_or_zero env))
deepen_is f w env h (num (negsuc n)) = rw (h (num (negsuc n))) (deepened w (negsuc n) (head_or_zero env))
deepen_is f w env h (more r s) = rw (h r, deepen_is f w env h s) (deepen_more w (value r (tail_of env)) (head_or_zero env) (value s env))

lift_is : (p : Poly) (f : Poly → Poly) (env : List ℤ) → ((t : Poly) → value (f t) (tail_of env) ≡ value p (tail_of env) *ℤ value t (tail_of env)) → (t : Poly) → value (lift p f t) env ≡ value p (tail_of env) *ℤ value t env
lift_is (num (pos zero)) f env h t = nothing_times (value t env)
lift_is (num (pos (suc n))) f env h t = deepen_is f (pos (suc n)) env h t
lift_is (num (negsuc n)) f env h t = deepen_is f (negsuc n) env h t
lift_is (more p q) f env h t = deepen_is f (value (more p q) (tail_of env)) env h t

scale_all_is : (c : ℤ) (q : Poly) (env : List ℤ) → value (scale_all c q) env ≡ c *ℤ value q env
scale_all_is c (num b) env = refl
scale_all_is c (more r s) env = rw (scale_all_is c r (tail_of env), scale_all_is c s env) (deepen_more c (value r (tail_of env)) (head_or_zero env) (value s env))

scale_is : (c : ℤ) (q : Poly) (env : List ℤ) → value (scale c q) env ≡ c *ℤ value q env
scale_is (pos zero) q env = nothing_times (value q env)
scale_is (pos (suc n)) q env = scale_all_is (pos (suc n)) q env
scale_is (negsuc n) q env = scale_all_is (negsuc n) q env

num_more : (p x q b : ℤ) → p *ℤ b +ℤ x *ℤ (q *ℤ b) ≡ (p +ℤ x *ℤ q) *ℤ b
num_more p x q b = sym (add-mul p (x *ℤ q) b ∙ ap (λ (t : ℤ). p *ℤ b +ℤ t) (mul_assoc x q b))

times_more : (p x q r s : ℤ) → p *ℤ r +ℤ x *ℤ (p *ℤ s +ℤ q *ℤ (r +ℤ x *ℤ s)) ≡ (p +ℤ x *ℤ q) *ℤ (r +ℤ x *ℤ s)
times_more p x q r s =
    rw (mul-add x (p *ℤ s) (q *ℤ (r +ℤ x *ℤ s))) (sym (add_assoc (p *ℤ r) (x *ℤ (p *ℤ s)) (x *ℤ (q *ℤ (r +ℤ x *ℤ s)))) ∙ ap (λ (t : ℤ). t +ℤ x *ℤ (q *ℤ (r +ℤ x *ℤ s))) (deepen_more p r x s) ∙ num_more p x q (r +ℤ x *ℤ s))

times_is : (p q : Poly) (env : List ℤ) → value (times p q) env ≡ value p env *ℤ value q env
times_is (num a) q env = scale_is a q env
times_is (more p q) (num b) env = scale_is b (more p q) env ∙ mul_comm b (value (more p q) env)
times_is (more p q) (more r s) env =
    rw (times_is p r (tail_of env), plus_is (lift p (times p) s) (times q (more r s)) env, lift_is p (times p) env (λ t. times_is p t (tail_of env)) s, times_is q (more r s) env) (times_more (value p (tail_of env)) (head_or_zero env) (value q env) (value r (tail_of env)) (value s env))

-- ---- expressions
pub data Term : Type 0 where
  at : ℕ → Term
  lit : ℤ → Term
  ◌⊕◌ : Term → Term → Term
  ◌⊖◌ : Term → Term → Term
  ◌⊗◌ : Term → Term → Term

infixl 6 ◌⊕◌ ◌⊖◌
infixl 7 ◌⊗◌
abbrev pub nth_of : List ℤ → ℕ → ℤ
nth_of [] n = pos 0
nth_of (x ∷ xs) zero = x
nth_of (x ∷ xs) (suc n) = nth_of xs n

abbrev pub meaning : List ℤ → Term → ℤ
meaning env (at n) = nth_of env n
meaning env (lit c) = c
meaning env (a ⊕ b) = meaning env a +ℤ meaning env b
meaning env (a ⊖ b) = meaning env a -ℤ meaning env b
meaning env (a ⊗ b) = meaning env a *ℤ meaning env b

abbrev pub variable : ℕ → Poly
variable zero = more (num (pos 0)) (num (pos 1))
variable (suc n) = more (variable n) (num (pos 0))

abbrev pub poly : Term → Poly
poly (at n) = variable n
poly (lit c) = num c
poly (a ⊕ b) = plus (poly a) (poly b)
poly (a ⊖ b) = plus (poly a) (times (num (negsuc 0)) (poly b))
poly (a ⊗ b) = times (poly a) (poly b)

variable_is : (n : ℕ) (env : List ℤ) → value (variable n) env ≡ nth_of env n
variable_is zero [] = refl
variable_is zero (x ∷ xs) = omega (arith, ints)
variable_is (suc n) [] = rw (variable_is n []) refl
variable_is (suc n) (x ∷ xs) = rw (variable_is n xs) (omega (arith, ints))

minus : (a b : ℤ) → a +ℤ negsuc 0 *ℤ b ≡ a -ℤ b
minus a b = omega (arith, ints)

poly_is : (t : Term) (env : List ℤ) → value (poly t) env ≡ meaning env t
poly_is (at n) env = variable_is n env
poly_is (lit c) env = refl
poly_is (a ⊕ b) env = rw (plus_is (poly a) (poly b) env, poly_is a env, poly_is b env)
poly_is (a ⊖ b) env = rw (plus_is (poly a) (times (num (negsuc 0)) (poly b)) env, times_is (num (negsuc 0)) (poly b) env, poly_is a env, poly_is b env) (minus (meaning env a) (meaning env b))
poly_is (a ⊗ b) env = rw (times_is (poly a) (poly b) env, poly_is a env, poly_is b env)

abbrev pub is_zero : Poly → Bool
is_zero (num (pos zero)) = true
is_zero (num (pos (suc n))) = false
is_zero (num (negsuc n)) = false
is_zero (more p q) = cond (is_zero p) (is_zero q) false

zero_value : (x : ℤ) → pos 0 +ℤ x *ℤ pos 0 ≡ pos 0
zero_value x = omega (arith, ints)

both_zero : (a b : Bool) → cond a b false ≡ true → (a ≡ true) × (b ≡ true)
both_zero true b h = (refl, h)
both_zero false b h = absurd (cc h)

is_zero_is : (p : Poly) (env : List ℤ) → is_zero p ≡ true → value p env ≡ pos 0
is_zero_is (num (pos zero)) env h = refl
is_zero_is (num (pos (suc n))) env h = absurd (cc h)
is_zero_is (num (negsuc n)) env h = absurd (cc h)
is_zero_is (more p q) env h =
    let b = both_zero (is_zero p) (is_zero q) h in
    rw (is_zero_is p (tail_of env) b.0, is_zero_is q env b.1) (zero_value (head_or_zero env))

same_from_zero : (a b : ℤ) → a -ℤ b ≡ pos 0 → a ≡ b
same_from_zero a b h = omega (arith, ints)

-- the equation of two terms
pub ring : (env : List ℤ) (a b : Term) → is_zero (poly (a ⊖ b)) ≡ true → meaning env a ≡ meaning env b
ring env a b h = same_from_zero (meaning env a) (meaning env b) (sym (poly_is (a ⊖ b) env) ∙ is_zero_is (poly (a ⊖ b)) env h)
