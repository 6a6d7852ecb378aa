-- The longest front of words, names, texts and the like is a spelling, and each spelling reaches no further.
use Rattle.std.proofs.Common.{◌≡◌, ℕ, ◌+◌, ◌-◌, ◌*◌, ◌≤◌, ◌==◌, ◌&&◌, inl, inr, List, [], ◌∷◌, ◌++◌, length, take, drop, Bool, true, false, nat_le, refl, sym, ap, subst, ◌∙◌, add-one, arith, Option, Some, None, option_map, append_assoc}
use Rattle.std.proofs.lemmas.Bool.{eqb-true, leb-true, le-leb, cases_Bool, and_from, not-true, and_parts}
use Rattle.std.proofs.lemmas.Bool.Decides.{nat_tests}
use Rattle.std.proofs.lemmas.List.{take-append-drop, length-take-le, length-append}
use Rattle.std.proofs.Math.Seq.{drop-append_seam}
use Rattle.p21_lexer.specs.inner.TokenSpans.{one, plain_word_span, word_span, is_bang, closed_span, name_run, text_span, or_first}
use Rattle.p21_lexer.specs.Spelling.{run, is_digit, is_letter, is_word_byte, AreAll, IsWord, value_after, is_doubled}
use Rattle.p21_lexer.specs.declared.limits.TheConstants.{GREATEST_NAME}

-- the first n bytes are such a front
pub record Begins (P : List ℕ → Type 0) (bs : List ℕ) (n : ℕ) : Type 0 where
  pub front : List ℕ
  pub rest : List ℕ
  pub whole : bs ≡ front ++ rest
  pub size : length front ≡ n
  pub is : P front

-- a number of at least m is there
pub record Reaches (o : Option ℕ) (m : ℕ) : Type 0 where
  pub n : ℕ
  pub some : o ≡ Some n
  pub far : m ≤ n

pub run_over : (p : ℕ → Bool) (d x : List ℕ) → AreAll p d → run p (d ++ x) ≡ length d + run p x
run_over p [] x h = omega arith
run_over p (b ∷ d) x h =
    let step = run_over p d x (and_parts (p b) _ h).1 in
    rw ((and_parts (p b) _ h).0) (omega (arith, step))

pub run_all : (p : ℕ → Bool) (bs : List ℕ) → AreAll p (take (run p bs) bs)
run_all p [] = refl
run_all p (b ∷ bs) = elim (cases_Bool (p b)) [
  | inl h ↦ rw (h, add-one (run p bs), h) (run_all p bs)
  | inr h ↦ rw h refl
]

pub run_size : (p : ℕ → Bool) (bs : List ℕ) → run p bs ≤ length bs
run_size p [] = omega arith
run_size p (b ∷ bs) = elim (cases_Bool (p b)) [
  | inl h ↦ rw h (let k = run_size p bs in omega (arith, k))
  | inr h ↦ rw h (omega arith)
]

pub run_front : (p : ℕ → Bool) (bs : List ℕ) → Begins (AreAll p) bs (run p bs)
run_front p bs = record {
  front = take (run p bs) bs;
  rest = drop (run p bs) bs;
  whole = sym (take-append-drop (run p bs) bs);
  size = length-take-le (run p bs) bs (run_size p bs);
  is = run_all p bs;
}

-- Words.

letter_no_bang : (b : ℕ) → is_letter b ≡ true → is_bang b ≡ false
letter_no_bang b h = elim (cases_Bool (is_bang b)) [
  | inl k ↦ (let e : b ≡ 33 = eqb-true _ _ k in let h2 = rw e at h in cc)
  | inr k ↦ k
]

pub word_most : (front rest : List ℕ) → IsWord front → Reaches (word_span (front ++ rest)) (length front)
unfolding word_span
word_most front rest w = elim w.is_bang [
  | inl e ↦ (let f : front ≡ w.first ∷ w.others = w.whole ∙ ap (λ x. x ++ w.first ∷ w.others) e in
      let r = run_over is_word_byte w.others rest w.are_others in
      record {
        n = run is_word_byte (w.others ++ rest) + 1;
        some = rw (f, letter_no_bang _ w.is_first, w.is_first) (ap Some (omega arith));
        far = rw f (omega (arith, r));
      })
  | inr e ↦ (let f : front ≡ 33 ∷ w.first ∷ w.others = w.whole ∙ ap (λ x. x ++ w.first ∷ w.others) e in
      let r = run_over is_word_byte w.others rest w.are_others in
      record {
        n = run is_word_byte (w.others ++ rest) + 2;
        some = rw (f, w.is_first) (ap Some (omega arith));
        far = rw f (omega (arith, r));
      })
]

plain_word : (bs : List ℕ) (n : ℕ) → plain_word_span bs ≡ Some n → Begins IsWord bs n
plain_word [] n h = cc
plain_word (b ∷ bs) n h = elim (cases_Bool (is_letter b)) [
  | inl k ↦ (let h2 = rw k at h in
      let e : run is_word_byte bs + 1 ≡ n = cc in
      let r = run_front is_word_byte bs in
      record {
        front = b ∷ r.front;
        rest = r.rest;
        whole = ap (λ x. b ∷ x) r.whole;
        size = omega (arith, r.size);
        is = record { bang = []; first = b; others = r.front; whole = refl; is_bang = inl refl; is_first = k; are_others = r.is };
      })
  | inr k ↦ (let h2 = rw k at h in cc)
]

pub some_of : (k n : ℕ) (o : Option ℕ) → option_map (λ m. k + m) o ≡ Some n → (m : ℕ) × (o ≡ Some m) × (n ≡ k + m)
some_of k n None h = cc
some_of k n (Some m) h = (m, refl, (let e : k + m ≡ n = cc in sym e))

bang_word : (b : ℕ) (bs : List ℕ) (m : ℕ) → b ≡ 33 → plain_word_span bs ≡ Some m → Begins IsWord (b ∷ bs) (1 + m)
bang_word b [] m e h = cc
bang_word b (c ∷ bs) m e h = elim (cases_Bool (is_letter c)) [
  | inl k ↦ (let h2 = rw k at h in
      let e2 : run is_word_byte bs + 1 ≡ m = cc in
      let r = run_front is_word_byte bs in
      record {
        front = b ∷ c ∷ r.front;
        rest = r.rest;
        whole = ap (λ x. b ∷ c ∷ x) r.whole;
        size = omega (arith, r.size);
        is = record { bang = b ∷ []; first = c; others = r.front; whole = refl; is_bang = inr (ap (λ x. x ∷ []) e); is_first = k; are_others = r.is };
      })
  | inr k ↦ (let h2 = rw k at h in cc)
]

pub word_is : (bs : List ℕ) (n : ℕ) → word_span bs ≡ Some n → Begins IsWord bs n
unfolding word_span
word_is [] n h = cc
word_is (b ∷ bs) n h = elim (cases_Bool (is_bang b)) [
  | inl k ↦ (let h2 = rw k at h in
      let got = some_of 1 n (plain_word_span bs) h2 in
      rw got.2 (bang_word b bs got.0 (eqb-true _ _ k) got.1))
  | inr k ↦ (let h2 = rw k at h in
      let got = some_of 0 n (plain_word_span (b ∷ bs)) h2 in
      let e : n ≡ got.0 = omega (arith, got.2) in
      rw e (plain_word (b ∷ bs) got.0 got.1))
]

-- Closed by a byte that is none of those inside.

pub eqb_same : (n : ℕ) → n == n ≡ true
eqb_same n = grind (arith, nat_tests)

pub closed_most : (p : ℕ → Bool) (close : ℕ) (d rest : List ℕ) → p close ≡ false → AreAll p d → closed_span p close (d ++ close ∷ rest) ≡ Some (length d + 1)
closed_most p close d rest out all =
    let r = run_over p d (close ∷ rest) all in
    let stop : run p (close ∷ rest) ≡ 0 = rw out refl in
    let e : run p (d ++ close ∷ rest) ≡ length d = omega (arith, r, stop) in
    rw (e, drop-append_seam d (close ∷ rest), eqb_same close) refl

one_is : (close : ℕ) (bs : List ℕ) → one (λ b. b == close) bs == 1 ≡ true → bs ≡ close ∷ drop 1 bs
one_is close [] h = cc
one_is close (b ∷ bs) h = elim (cases_Bool (b == close)) [
  | inl k ↦ ap (λ x. x ∷ bs) (eqb-true b close k)
  | inr k ↦ (let h2 = rw k at h in cc)
]

-- bytes of a kind, and the closing one
abbrev pub Closed : (ℕ → Bool) → ℕ → List ℕ → Type 0
Closed p close bs = (d : List ℕ) × (bs ≡ d ++ close ∷ []) × AreAll p d

pub closed_is : (p : ℕ → Bool) (close : ℕ) (bs : List ℕ) (n : ℕ) → closed_span p close bs ≡ Some n → Begins (Closed p close) bs n
unfolding run_front
closed_is p close bs n h = elim (cases_Bool (one (λ b. b == close) (drop (run p bs) bs) == 1)) [
  | inl k ↦ (let h2 = rw k at h in
      let e : run p bs + 1 ≡ n = cc in
      let r = run_front p bs in
      let rest : List ℕ = drop 1 (drop (run p bs) bs) in
      let f : drop (run p bs) bs ≡ close ∷ rest = one_is close _ k in
      let w : bs ≡ r.front ++ close ∷ rest = r.whole ∙ ap (λ x. r.front ++ x) f in
      record {
        front = r.front ++ close ∷ [];
        rest = rest;
        whole = w ∙ sym (append_assoc r.front (close ∷ []) rest);
        size = rw length-append (omega (arith, r.size));
        is = (r.front, refl, r.is);
      })
  | inr k ↦ (let h2 = rw k at h in cc)
]

-- Names.

value_grows : (v : ℕ) (d : List ℕ) → v ≤ value_after v d
value_grows v [] = omega arith
value_grows v (b ∷ d) = let g = value_grows (v * 10 + (b - 48)) d in omega (arith, g)

pub name_over : (v : ℕ) (d x : List ℕ) → AreAll is_digit d → value_after v d ≤ GREATEST_NAME → length d ≤ name_run v (d ++ x)
name_over v [] x h k = omega arith
name_over v (b ∷ d) x h k =
    let le : v * 10 + (b - 48) ≤ GREATEST_NAME = (let g = value_grows (v * 10 + (b - 48)) d in omega (arith, g, k)) in
    let step = name_over (v * 10 + (b - 48)) d x (and_parts (is_digit b) _ h).1 k in
    rw ((and_parts (is_digit b) _ h).0, le-leb _ _ le) (omega (arith, step))

pub name_front : (v : ℕ) (bs : List ℕ) → v ≤ GREATEST_NAME → Begins (λ d. AreAll is_digit d × (value_after v d ≤ GREATEST_NAME)) bs (name_run v bs)
name_front v [] le = record { front = []; rest = []; whole = refl; size = refl; is = (refl, le) }
name_front v (b ∷ bs) le = elim (cases_Bool (is_digit b && nat_le (v * 10 + (b - 48)) GREATEST_NAME)) [
  | inl k ↦ (let small : v * 10 + (b - 48) ≤ GREATEST_NAME = leb-true _ _ (and_parts (is_digit b) _ k).1 in
      let r = name_front (v * 10 + (b - 48)) bs small in
      rw k (record {
        front = b ∷ r.front;
        rest = r.rest;
        whole = ap (λ x. b ∷ x) r.whole;
        size = omega (arith, r.size);
        is = (and_from (is_digit b) _ (and_parts (is_digit b) _ k).0 r.is.0, r.is.1);
      }))
  | inr k ↦ rw k (record { front = []; rest = b ∷ bs; whole = refl; size = refl; is = (refl, le) })
]

-- Texts.

or_first_far : (o : Option ℕ) → Reaches (or_first o) 1
or_first_far None = record { n = 1; some = refl; far = omega arith }
or_first_far (Some m) = record { n = m + 2; some = refl; far = omega arith }

pub text_most : (inner rest : List ℕ) → is_doubled inner ≡ true → Reaches (text_span (inner ++ 39 ∷ rest)) (length inner + 1)
text_most [] [] h = record { n = 1; some = refl; far = omega arith }
text_most [] (c ∷ rest) h = elim (cases_Bool (c == 39)) [
  | inl k ↦ rw k (or_first_far (text_span rest))
  | inr k ↦ rw k (record { n = 1; some = refl; far = omega arith })
]
text_most (b ∷ []) rest h =
    let r = text_most [] rest refl in
    let out : b == 39 ≡ false = not-true _ h in
    rw (out, r.some) (record { n = r.n + 1; some = refl; far = omega (arith, r.far) })
text_most (b ∷ c ∷ bs) rest h = elim (cases_Bool (b == 39)) [
  | inl k ↦ (let h2 = rw k at h in
      let r = text_most bs rest (and_parts (c == 39) _ h2).1 in
      rw (k, (and_parts (c == 39) _ h2).0, r.some) (record { n = r.n + 2; some = refl; far = omega (arith, r.far) }))
  | inr k ↦ (let h2 = rw k at h in
      let r = text_most (c ∷ bs) rest h2 in
      rw (k, r.some) (record { n = r.n + 1; some = refl; far = omega (arith, r.far) }))
]

-- the inside of a text and the closing apostrophe
abbrev pub Inside : List ℕ → Type 0
Inside bs = (inner : List ℕ) × (bs ≡ inner ++ 39 ∷ []) × (is_doubled inner ≡ true)

plain_doubled : (b : ℕ) (inner : List ℕ) → b == 39 ≡ false → is_doubled inner ≡ true → is_doubled (b ∷ inner) ≡ true
plain_doubled b [] out h = rw out refl
plain_doubled b (c ∷ bs) out h = rw out h

inside_plain : (b : ℕ) (bs : List ℕ) (n : ℕ) → b == 39 ≡ false → Begins Inside bs n → Begins Inside (b ∷ bs) (n + 1)
inside_plain b bs n out r = record {
  front = b ∷ r.front;
  rest = r.rest;
  whole = ap (λ x. b ∷ x) r.whole;
  size = omega (arith, r.size);
  is = (b ∷ r.is.0, ap (λ x. b ∷ x) r.is.1, plain_doubled b r.is.0 out r.is.2);
}

inside_close : (b : ℕ) (bs : List ℕ) → b == 39 ≡ true → Begins Inside (b ∷ bs) 1
inside_close b bs k = record { front = b ∷ []; rest = bs; whole = refl; size = refl; is = ([], ap (λ x. x ∷ []) (eqb-true _ _ k), refl) }

inside_two : (b c : ℕ) (bs : List ℕ) (n : ℕ) → b == 39 ≡ true → c == 39 ≡ true → Begins Inside bs n → Begins Inside (b ∷ c ∷ bs) (n + 2)
inside_two b c bs n k m r = record {
  front = b ∷ c ∷ r.front;
  rest = r.rest;
  whole = ap (λ x. b ∷ c ∷ x) r.whole;
  size = omega (arith, r.size);
  is = (b ∷ c ∷ r.is.0, ap (λ x. b ∷ c ∷ x) r.is.1, rw (k, m, r.is.2) refl);
}

inside_pair : (b c : ℕ) (bs : List ℕ) (n : ℕ) → b == 39 ≡ true → c == 39 ≡ true → (o : Option ℕ) → text_span bs ≡ o → or_first o ≡ Some n
    → ((x : ℕ) → text_span bs ≡ Some x → Begins Inside bs x) → Begins Inside (b ∷ c ∷ bs) n
inside_pair b c bs n k m None e h step = let f : 1 ≡ n = cc in subst (Begins Inside (b ∷ c ∷ bs)) f (inside_close b (c ∷ bs) k)
inside_pair b c bs n k m (Some x) e h step = let f : x + 2 ≡ n = cc in subst (Begins Inside (b ∷ c ∷ bs)) f (inside_two b c bs x k m (step x e))

pub plus_one : (n : ℕ) (o : Option ℕ) → option_map (λ m. m + 1) o ≡ Some n → (m : ℕ) × (o ≡ Some m) × (n ≡ m + 1)
plus_one n None h = cc
plus_one n (Some m) h = (m, refl, (let e : m + 1 ≡ n = cc in sym e))

pub text_is : (bs : List ℕ) (n : ℕ) → text_span bs ≡ Some n → Begins Inside bs n
text_is [] n h = cc
text_is (b ∷ []) n h = elim (cases_Bool (b == 39)) [
  | inl k ↦ (let h2 = rw k at h in let e : 1 ≡ n = cc in subst (Begins Inside (b ∷ [])) e (inside_close b [] k))
  | inr k ↦ (let h2 = rw k at h in cc)
]
text_is (b ∷ c ∷ bs) n h = elim (cases_Bool (b == 39)) [
  | inl k ↦ (let h2 = rw k at h in elim (cases_Bool (c == 39)) [
    | inl m ↦ (let h3 = rw m at h2 in inside_pair b c bs n k m (text_span bs) refl h3 (λ x e. text_is bs x e))
    | inr m ↦ (let h3 = rw m at h2 in let e : 1 ≡ n = cc in subst (Begins Inside (b ∷ c ∷ bs)) e (inside_close b (c ∷ bs) k))
  ])
  | inr k ↦ (let h2 = rw k at h in
      let got = plus_one n _ h2 in
      rw got.2 (inside_plain b (c ∷ bs) got.0 k (text_is (c ∷ bs) got.0 got.1)))
]
