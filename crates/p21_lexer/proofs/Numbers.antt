-- The front of a number is the longest, and spells one.
use Rattle.std.proofs.Common.{◌≡◌, ℕ, ◌+◌, ◌<◌, ◌≤◌, inl, inr, List, [], ◌∷◌, ◌++◌, length, drop, true, false, nat_lt, refl, sym, ap, ◌∙◌, arith, Option, Some, None, option_map, append_assoc}
use Rattle.std.proofs.lemmas.Bool.{ltb-true, eqb-true, lt-ltb, cases_Bool, and_parts}
use Rattle.std.proofs.lemmas.Bool.Decides.{nat_tests}
use Rattle.std.proofs.lemmas.List.{length-append, drop-drop}
use Rattle.std.proofs.Math.Seq.{drop-append_seam}
use Rattle.p21_lexer.proofs.Fronts.{Begins, Reaches, run_over, run_front}
use Rattle.p21_lexer.specs.inner.TokenSpans.{one, is_point, signed_span, fraction_span, exponent_span, number_span, or_zero, with_fraction, with_exponent}
use Rattle.p21_lexer.specs.Spelling.{run, is_digit, is_sign, is_exponent_mark, AreAll, AreSome, IsOptionalSign, IsSigned, IsFraction, IsExponent, IsNumber}

sign_no_digit : (b : ℕ) → is_digit b ≡ true → is_sign b ≡ false
sign_no_digit b h = elim (cases_Bool (is_sign b)) [ inl k ↦ grind (arith, nat_tests) | inr k ↦ k ]

mark_no_digit : (b : ℕ) → is_exponent_mark b ≡ true → is_digit b ≡ false
mark_no_digit b h = elim (cases_Bool (is_digit b)) [ inl k ↦ grind (arith, nat_tests) | inr k ↦ k ]

mark_no_point : (b : ℕ) → is_exponent_mark b ≡ true → is_point b ≡ false
mark_no_point b h = elim (cases_Bool (is_point b)) [ inl k ↦ grind (arith, nat_tests) | inr k ↦ k ]

signed_some : (bs : List ℕ) (a r : ℕ) → one is_sign bs ≡ a → run is_digit (drop a bs) ≡ r → 0 < r → signed_span bs ≡ Some (a + r)
unfolding signed_span
signed_some bs a r e f lt =
    let t : nat_lt 0 r ≡ true = lt-ltb 0 r lt in
    rw (e, f, t) refl

signed_more : (sign digits x : List ℕ) → IsOptionalSign sign → AreSome is_digit digits → signed_span (sign ++ (digits ++ x)) ≡ Some (length sign + (length digits + run is_digit x))
signed_more [] [] x s d = absurd (omega (arith, d.1))
signed_more [] (b ∷ ds) x s d =
    let r = run_over is_digit (b ∷ ds) x d.0 in
    let none : one is_sign (b ∷ (ds ++ x)) ≡ 0 = rw (sign_no_digit b (and_parts (is_digit b) _ d.0).0) refl in
    signed_some (b ∷ (ds ++ x)) 0 _ none r (omega arith)
signed_more (c ∷ []) digits x s d =
    let r = run_over is_digit digits x d.0 in
    let none : one is_sign (c ∷ (digits ++ x)) ≡ 1 = rw s refl in
    signed_some (c ∷ (digits ++ x)) 1 _ none r (omega (arith, d.1))
signed_more (c ∷ e ∷ more) digits x s d = absurd s

pub signed_most : (front x : List ℕ) → IsSigned front → signed_span (front ++ x) ≡ Some (length front + run is_digit x)
signed_most front x s =
    let e : front ++ x ≡ s.sign ++ (s.digits ++ x) = ap (λ y. y ++ x) s.whole ∙ append_assoc s.sign s.digits x in
    let l : length front ≡ length s.sign + length s.digits = ap length s.whole ∙ length-append s.sign s.digits in
    rw (e, signed_more s.sign s.digits x s.is_sign s.are_digits) (ap Some (omega (arith, l)))

exponent_most : (e : ℕ) (s rest : List ℕ) → is_exponent_mark e ≡ true → IsSigned s → length s + 1 ≤ exponent_span (e ∷ (s ++ rest))
unfolding exponent_span
exponent_most e s rest m is = rw (m, signed_most s rest is) (omega arith)

number_from : (bs : List ℕ) (n : ℕ) → signed_span bs ≡ Some n → number_span bs ≡ Some (with_exponent bs (with_fraction bs n))
unfolding number_span
number_from bs n h = rw h refl

at_exponent : (bs exponent rest : List ℕ) (n : ℕ) → IsExponent exponent → drop n bs ≡ exponent ++ rest → n + length exponent ≤ with_exponent bs n
at_exponent bs [] rest n is e = omega arith
at_exponent bs (b ∷ s) rest n is e =
    let far = exponent_most b s rest is.0 is.1 in
    rw e (omega (arith, far))

no_fraction : (b : ℕ) (bs : List ℕ) → is_point b ≡ false → fraction_span (b ∷ bs) ≡ 0
unfolding fraction_span
no_fraction b bs h = rw h refl

some_fraction : (ds x : List ℕ) → AreAll is_digit ds → fraction_span (46 ∷ (ds ++ x)) ≡ length ds + run is_digit x + 1
unfolding fraction_span
some_fraction ds x h = ap (λ n. n + 1) (run_over is_digit ds x h)

with_tail : (bs front ds exponent rest : List ℕ) → bs ≡ front ++ (46 ∷ (ds ++ (exponent ++ rest))) → signed_span bs ≡ Some (length front)
    → drop (length front) bs ≡ 46 ∷ (ds ++ (exponent ++ rest)) → fraction_span (46 ∷ (ds ++ (exponent ++ rest))) ≡ length ds + run is_digit (exponent ++ rest) + 1 → IsExponent exponent
    → Reaches (number_span bs) (length front + (length (46 ∷ ds) + length exponent))
with_tail bs front ds [] rest e s d fr h =
    let w : with_fraction bs (length front) ≡ length front + (length ds + run is_digit rest + 1) = rw (d, fr) refl in
    record { n = _; some = number_from bs _ s; far = omega (arith, w) }
with_tail bs front ds (b ∷ ex) rest e s d fr h =
    let z : run is_digit (b ∷ (ex ++ rest)) ≡ 0 = rw (mark_no_digit b h.0) refl in
    let w : with_fraction bs (length front) ≡ length front + (length ds + 1) = rw (d, fr, z) (omega arith) in
    let at : length front + (length ds + 1) ≡ length front + (1 + length ds) = omega arith in
    let d2 : drop (length front + (1 + length ds)) bs ≡ b ∷ (ex ++ rest) = rw (← drop-drop (1 + length ds) (length front) bs, d, ← drop-drop (length ds) 1 (46 ∷ (ds ++ (b ∷ (ex ++ rest)))), drop-append_seam ds (b ∷ (ex ++ rest))) refl in
    let far = at_exponent bs (b ∷ ex) rest (length front + (1 + length ds)) h d2 in
    record { n = with_exponent bs (length front + (1 + length ds)); some = number_from bs _ s ∙ ap (λ n. Some (with_exponent bs n)) (w ∙ at); far = omega (arith, far) }

number_tail : (bs front fraction exponent rest : List ℕ) → bs ≡ front ++ (fraction ++ (exponent ++ rest)) → IsSigned front → IsFraction fraction → IsExponent exponent
    → Reaches (number_span bs) (length front + (length fraction + length exponent))
number_tail bs front [] [] rest e f g h =
    let s : signed_span bs ≡ Some (length front + run is_digit rest) = rw e (signed_most front rest f) in
    record { n = _; some = number_from bs _ s; far = omega arith }
number_tail bs front [] (b ∷ ex) rest e f g h =
    let s : signed_span bs ≡ Some (length front + run is_digit (b ∷ (ex ++ rest))) = rw e (signed_most front (b ∷ (ex ++ rest)) f) in
    let z : run is_digit (b ∷ (ex ++ rest)) ≡ 0 = rw (mark_no_digit b h.0) refl in
    let k : length front + run is_digit (b ∷ (ex ++ rest)) ≡ length front = omega (arith, z) in
    let d : drop (length front) bs ≡ b ∷ (ex ++ rest) = rw e (drop-append_seam front (b ∷ (ex ++ rest))) in
    let w : with_fraction bs (length front) ≡ length front = rw (d, no_fraction b (ex ++ rest) (mark_no_point b h.0)) (omega arith) in
    let far = at_exponent bs (b ∷ ex) rest (length front) h d in
    record { n = with_exponent bs (length front); some = number_from bs _ (s ∙ ap Some k) ∙ ap (λ n. Some (with_exponent bs n)) w; far = omega (arith, far) }
number_tail bs front (p ∷ ds) exponent rest e f g h =
    let tail : List ℕ = exponent ++ rest in
    let e2 : bs ≡ front ++ (46 ∷ (ds ++ tail)) = e ∙ ap (λ q. front ++ (q ∷ (ds ++ tail))) g.0 in
    let s : signed_span bs ≡ Some (length front + run is_digit (46 ∷ (ds ++ tail))) = rw e2 (signed_most front (46 ∷ (ds ++ tail)) f) in
    let k : length front + run is_digit (46 ∷ (ds ++ tail)) ≡ length front = omega arith in
    let d : drop (length front) bs ≡ 46 ∷ (ds ++ tail) = rw e2 (drop-append_seam front (46 ∷ (ds ++ tail))) in
    let fr = some_fraction ds tail g.1 in
    with_tail bs front ds exponent rest e2 (s ∙ ap Some k) d fr h

pub number_most : (front rest : List ℕ) → IsNumber front → Reaches (number_span (front ++ rest)) (length front)
number_most front rest w =
    let e : front ++ rest ≡ w.front ++ (w.fraction ++ (w.exponent ++ rest)) =
    ap (λ x. x ++ rest) w.whole ∙ append_assoc w.front (w.fraction ++ w.exponent) rest ∙ ap (λ x. w.front ++ x) (append_assoc w.fraction w.exponent rest) in
    let r = number_tail (front ++ rest) w.front w.fraction w.exponent rest e w.is_front w.is_fraction w.is_exponent in
    let l : length front ≡ length w.front + (length w.fraction + length w.exponent) =
    ap length w.whole ∙ length-append w.front (w.fraction ++ w.exponent) ∙ ap (λ n. length w.front + n) (length-append w.fraction w.exponent) in
    record { n = r.n; some = r.some; far = omega (arith, r.far, l) }

-- The other way.

pub begins_drop : (P : List ℕ → Type 0) (bs : List ℕ) (n : ℕ) (r : Begins P bs n) → bs ≡ r.front ++ drop n bs
begins_drop P bs n r =
    let d : drop n bs ≡ r.rest = rw (r.whole, ← r.size) (drop-append_seam r.front r.rest) in
    r.whole ∙ ap (λ x. r.front ++ x) (sym d)

signed_is : (bs : List ℕ) (n : ℕ) → signed_span bs ≡ Some n → Begins IsSigned bs n
unfolding signed_span
signed_is [] n h = cc
signed_is (b ∷ bs) n h = elim (cases_Bool (is_sign b)) [
  | inl k ↦ (let h2 = rw k at h in elim (cases_Bool (nat_lt 0 (run is_digit bs))) [
    | inl t ↦ (let h3 = rw t at h2 in
        let e : 1 + run is_digit bs ≡ n = cc in
        let lt = ltb-true 0 (run is_digit bs) t in
        let r = run_front is_digit bs in
        record {
          front = b ∷ r.front;
          rest = r.rest;
          whole = ap (λ x. b ∷ x) r.whole;
          size = omega (arith, r.size, e);
          is = record { sign = b ∷ []; digits = r.front; whole = refl; is_sign = k; are_digits = (r.is, omega (arith, r.size, lt)) };
        })
    | inr t ↦ (let h3 = rw t at h2 in cc)
  ])
  | inr k ↦ (let h2 = rw k at h in elim (cases_Bool (nat_lt 0 (run is_digit (b ∷ bs)))) [
    | inl t ↦ (let h3 = rw t at h2 in
        let e : 0 + run is_digit (b ∷ bs) ≡ n = cc in
        let lt = ltb-true 0 (run is_digit (b ∷ bs)) t in
        let r = run_front is_digit (b ∷ bs) in
        record {
          front = r.front;
          rest = r.rest;
          whole = r.whole;
          size = omega (arith, r.size, e);
          is = record { sign = []; digits = r.front; whole = refl; is_sign = tt; are_digits = (r.is, omega (arith, r.size, lt)) };
        })
    | inr t ↦ (let h3 = rw t at h2 in cc)
  ])
]

fraction_is : (bs : List ℕ) → Begins IsFraction bs (fraction_span bs)
unfolding fraction_span
fraction_is [] = record { front = []; rest = []; whole = refl; size = refl; is = tt }
fraction_is (b ∷ bs) = elim (cases_Bool (is_point b)) [
  | inl k ↦ rw k (let r = run_front is_digit bs in record {
    front = b ∷ r.front;
    rest = r.rest;
    whole = ap (λ x. b ∷ x) r.whole;
    size = omega (arith, r.size);
    is = (eqb-true _ _ k, r.is);
  })
  | inr k ↦ rw k (record { front = []; rest = b ∷ bs; whole = refl; size = refl; is = tt })
]

exponent_with : (b : ℕ) (bs : List ℕ) (o : Option ℕ) → is_exponent_mark b ≡ true → signed_span bs ≡ o → Begins IsExponent (b ∷ bs) (or_zero o)
exponent_with b bs None k e = record { front = []; rest = b ∷ bs; whole = refl; size = refl; is = tt }
exponent_with b bs (Some n) k e =
    let r = signed_is bs n e in
    record { front = b ∷ r.front; rest = r.rest; whole = ap (λ x. b ∷ x) r.whole; size = omega (arith, r.size); is = (k, r.is) }

exponent_is : (bs : List ℕ) → Begins IsExponent bs (exponent_span bs)
unfolding exponent_span
exponent_is [] = record { front = []; rest = []; whole = refl; size = refl; is = tt }
exponent_is (b ∷ bs) = elim (cases_Bool (is_exponent_mark b)) [
  | inl k ↦ rw k (exponent_with b bs (signed_span bs) k refl)
  | inr k ↦ rw k (record { front = []; rest = b ∷ bs; whole = refl; size = refl; is = tt })
]

mapped : (f : ℕ → ℕ) (n : ℕ) (o : Option ℕ) → option_map f o ≡ Some n → (m : ℕ) × (o ≡ Some m) × (n ≡ f m)
mapped f n None h = cc
mapped f n (Some m) h = (m, refl, (let e : f m ≡ n = cc in sym e))

number_at : (bs : List ℕ) (m : ℕ) → signed_span bs ≡ Some m → Begins IsNumber bs (with_exponent bs (with_fraction bs m))
number_at bs m h =
    let s = signed_is bs m h in
    let f = fraction_is (drop m bs) in
    let k : ℕ = m + fraction_span (drop m bs) in
    let e = exponent_is (drop k bs) in
    let w1 : bs ≡ s.front ++ drop m bs = begins_drop IsSigned bs m s in
    let w2 : drop m bs ≡ f.front ++ drop k bs = begins_drop IsFraction (drop m bs) _ f ∙ ap (λ x. f.front ++ x) (drop-drop _ m bs) in
    let w3 : drop m bs ≡ (f.front ++ e.front) ++ e.rest = w2 ∙ ap (λ x. f.front ++ x) e.whole ∙ sym (append_assoc f.front e.front e.rest) in
    record {
      front = s.front ++ (f.front ++ e.front);
      rest = e.rest;
      whole = w1 ∙ ap (λ x. s.front ++ x) w3 ∙ sym (append_assoc s.front (f.front ++ e.front) e.rest);
      size = rw (length-append s.front (f.front ++ e.front), length-append f.front e.front) (omega (arith, s.size, f.size, e.size));
      is = record { front = s.front; fraction = f.front; exponent = e.front; whole = refl; is_front = s.is; is_fraction = f.is; is_exponent = e.is };
    }

pub number_is : (bs : List ℕ) (n : ℕ) → number_span bs ≡ Some n → Begins IsNumber bs n
unfolding number_span
number_is bs n h =
    let got = mapped (λ m. with_exponent bs (with_fraction bs m)) n (signed_span bs) h in
    rw got.2 (number_at bs got.0 got.1)
