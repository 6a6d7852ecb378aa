-- The first byte tells the kind of a token, and what begins there is its longest spelling, or none.
use Rattle.std.proofs.Common.{◌≡◌, ℕ, ◌+◌, ◌-◌, ◌<◌, ◌≤◌, ◌==◌, ◌||◌, inl, inr, List, [], ◌∷◌, ◌++◌, length, get_or, take, drop, Bool, true, false, nat_lt, suc, refl, sym, ap, subst, ◌∙◌, arith, drop-cons, Option, Some, None, option_map, append_assoc}
use Rattle.std.proofs.lemmas.Bool.{ltb-true, eqb-true, lt-ltb, cases_Bool, and_parts}
use Rattle.std.proofs.lemmas.Bool.Decides.{nat_tests}
use Rattle.std.proofs.lemmas.List.{take-append-drop, length-take-le, length-append}
use Rattle.std.proofs.Math.Seq.{take-append_seam}
use Rattle.p21_lexer.specs.declared.token.TokenKind.{TokenKind}
use Rattle.p21_lexer.specs.declared.token.TokenKind.TheVariants as kinds
use Rattle.p21_lexer.specs.inner.Kinds.{kind_of, span}
use Rattle.p21_lexer.specs.Spelling.{Spells, IsWord, IsName, IsNumber, IsText, IsEnumeration, IsBits, is_single, is_digit, is_sign, is_letter, is_letter_or_digit, is_hexadecimal, IsOptionalSign, AreSome, AreAll, value_after, run}
use Rattle.p21_lexer.specs.declared.limits.TheConstants.{GREATEST_NAME}
use Rattle.p21_lexer.specs.inner.TokenSpans.{name_span, text_span, enumeration_span, bits_span, name_run, one}
use Rattle.p21_lexer.specs.Cutting.{IsFirst, HasNone}
use Rattle.p21_lexer.proofs.Gapping.{found_at, none_at}
use Rattle.p21_lexer.proofs.Fronts.{Begins, Reaches, word_most, word_is, closed_most, closed_is, name_over, name_front, text_most, text_is, plus_one, run_over}
use Rattle.p21_lexer.proofs.Numbers.{number_most, number_is}

-- The first byte tells the kind.

letter_no_single : (b : ℕ) → is_letter b ≡ true → is_single b ≡ false
letter_no_single b h = elim (cases_Bool (is_single b)) [ inl k ↦ grind (arith, nat_tests) | inr k ↦ k ]

letter_no_number : (b : ℕ) → is_letter b ≡ true → (is_digit b || is_sign b) ≡ false
letter_no_number b h = elim (cases_Bool ((is_digit b || is_sign b))) [ inl k ↦ grind (arith, nat_tests) | inr k ↦ k ]

letter_no_hash : (b : ℕ) → is_letter b ≡ true → (b == 35) ≡ false
letter_no_hash b h = elim (cases_Bool ((b == 35))) [ inl k ↦ grind (arith, nat_tests) | inr k ↦ k ]

digit_no_single : (b : ℕ) → is_digit b ≡ true → is_single b ≡ false
digit_no_single b h = elim (cases_Bool (is_single b)) [ inl k ↦ grind (arith, nat_tests) | inr k ↦ k ]

sign_no_single : (b : ℕ) → is_sign b ≡ true → is_single b ≡ false
sign_no_single b h = elim (cases_Bool (is_single b)) [ inl k ↦ grind (arith, nat_tests) | inr k ↦ k ]

pub kind_letter : (b : ℕ) → is_letter b ≡ true → kind_of b ≡ Some kinds.Word
kind_letter b h = rw (letter_no_single b h, letter_no_number b h, letter_no_hash b h, h) refl

pub kind_digit : (b : ℕ) → is_digit b ≡ true → kind_of b ≡ Some kinds.Number
kind_digit b h = rw (digit_no_single b h, h) refl

or_true : (b : Bool) → b || true ≡ true
or_true true = refl
or_true false = refl

pub kind_sign : (b : ℕ) → is_sign b ≡ true → kind_of b ≡ Some kinds.Number
kind_sign b h = rw (sign_no_single b h, h, or_true (is_digit b)) refl

pub kind_single : (b : ℕ) → is_single b ≡ true → kind_of b ≡ Some kinds.Single
kind_single b h = rw h refl

-- a spelling's first byte
pub record Headed (k : TokenKind) (front : List ℕ) : Type 0 where
  pub head : ℕ
  pub tail : List ℕ
  pub whole : front ≡ head ∷ tail
  pub kind : kind_of head ≡ Some k

word_headed : (front : List ℕ) → IsWord front → Headed kinds.Word front
word_headed front w = elim w.is_bang [
  | inl e ↦ record { head = w.first; tail = w.others; whole = w.whole ∙ ap (λ x. x ++ w.first ∷ w.others) e; kind = kind_letter w.first w.is_first }
  | inr e ↦ record { head = 33; tail = w.first ∷ w.others; whole = w.whole ∙ ap (λ x. x ++ w.first ∷ w.others) e; kind = refl }
]

signed_headed : (sign digits x : List ℕ) → IsOptionalSign sign → AreSome is_digit digits → Headed kinds.Number ((sign ++ digits) ++ x)
signed_headed [] [] x s d = absurd (omega (arith, d.1))
signed_headed [] (b ∷ ds) x s d = record { head = b; tail = ds ++ x; whole = refl; kind = kind_digit b (and_parts (is_digit b) _ d.0).0 }
signed_headed (c ∷ []) ds x s d = record { head = c; tail = ds ++ x; whole = refl; kind = kind_sign c s }
signed_headed (c ∷ e ∷ more) ds x s d = absurd s

number_headed : (front : List ℕ) → IsNumber front → Headed kinds.Number front
number_headed front w =
    let e : front ≡ (w.is_front.sign ++ w.is_front.digits) ++ (w.fraction ++ w.exponent) = w.whole ∙ ap (λ x. x ++ (w.fraction ++ w.exponent)) w.is_front.whole in
    subst (Headed kinds.Number) (sym e) (signed_headed w.is_front.sign w.is_front.digits _ w.is_front.is_sign w.is_front.are_digits)

pub headed : (k : TokenKind) (front : List ℕ) → Spells k front → Headed k front
headed kinds.Word front w = word_headed front w
headed kinds.Name front w = record { head = 35; tail = w.digits; whole = w.whole; kind = refl }
headed kinds.Number front w = number_headed front w
headed kinds.Words front w = record { head = 39; tail = w.inner ++ 39 ∷ []; whole = w.whole; kind = refl }
headed kinds.Enumeration front w = record { head = 46; tail = w.first ∷ (w.others ++ 46 ∷ []); whole = w.whole; kind = refl }
headed kinds.Bits front w = record { head = 34; tail = w.digits ++ 34 ∷ []; whole = w.whole; kind = refl }
headed kinds.Single front w = record { head = w.byte; tail = []; whole = w.whole; kind = kind_single w.byte w.single }

-- No spelling is longer than the span.

behind_some : (o : Option ℕ) (m : ℕ) → Reaches o m → Reaches (option_map (λ n. n + 1) o) (m + 1)
behind_some o m r = rw r.some (record { n = r.n + 1; some = refl; far = omega (arith, r.far) })

name_reaches : (digits rest : List ℕ) → AreSome is_digit digits → value_after 0 digits ≤ GREATEST_NAME → Reaches (name_span (digits ++ rest)) (length digits)
name_reaches digits rest d le =
    let far = name_over 0 digits rest d.0 le in
    let t : nat_lt 0 (name_run 0 (digits ++ rest)) ≡ true = lt-ltb 0 _ (omega (arith, far, d.1)) in
    rw t (record { n = name_run 0 (digits ++ rest); some = refl; far = far })

enumeration_reaches : (first : ℕ) (others rest : List ℕ) → is_letter first ≡ true → AreAll is_letter_or_digit others
    → enumeration_span (first ∷ (others ++ 46 ∷ rest)) ≡ Some (length others + 2)
unfolding enumeration_span
enumeration_reaches first others rest h all =
    let both : AreAll is_letter_or_digit (first ∷ others) = rw (h, all) refl in
    let e = closed_most is_letter_or_digit 46 (first ∷ others) rest refl both in
    let t : one is_letter (first ∷ (others ++ 46 ∷ rest)) == 1 ≡ true = rw h refl in
    let n : length (first ∷ others) + 1 ≡ length others + 2 = omega arith in
    rw t (e ∙ ap Some n)

bits_reaches : (digits rest : List ℕ) → AreSome is_hexadecimal digits → bits_span (digits ++ 34 ∷ rest) ≡ Some (length digits + 1)
unfolding bits_span
bits_reaches digits rest d =
    let far = run_over is_hexadecimal digits (34 ∷ rest) d.0 in
    let t : nat_lt 0 (run is_hexadecimal (digits ++ 34 ∷ rest)) ≡ true = lt-ltb 0 _ (omega (arith, far, d.1)) in
    rw t (closed_most is_hexadecimal 34 digits rest refl d.0)

pub reaches : (k : TokenKind) (front rest : List ℕ) → Spells k front → Reaches (span k (front ++ rest)) (length front)
unfolding span
reaches kinds.Word front rest w = word_most front rest w
reaches kinds.Name front rest w = rw w.whole (let r = behind_some _ _ (name_reaches w.digits rest w.are_digits w.bound) in record { n = r.n; some = r.some; far = omega (arith, r.far) })
reaches kinds.Number front rest w = number_most front rest w
reaches kinds.Words front rest w =
    let r = behind_some _ _ (text_most w.inner rest w.doubled) in
    rw (w.whole, append_assoc w.inner (39 ∷ []) rest) (record { n = r.n; some = r.some; far = omega (arith, r.far, length-append w.inner (39 ∷ [])) })
reaches kinds.Enumeration front rest w =
    rw (w.whole, append_assoc w.others (46 ∷ []) rest, enumeration_reaches w.first w.others rest w.is_first w.are_others)
    (record { n = length w.others + 3; some = ap Some (omega arith); far = omega (arith, length-append w.others (46 ∷ [])) })
reaches kinds.Bits front rest w =
    rw (w.whole, append_assoc w.digits (34 ∷ []) rest, bits_reaches w.digits rest w.are_digits)
    (record { n = length w.digits + 2; some = ap Some (omega arith); far = omega (arith, length-append w.digits (34 ∷ [])) })
reaches kinds.Single front rest w = record { n = 1; some = refl; far = rw w.whole (omega arith) }

-- What the span takes is a spelling.

-- what the kind says of the first byte
abbrev HeadOf : TokenKind → ℕ → Type 0
HeadOf kinds.Word b = Unit {0}
HeadOf kinds.Name b = b ≡ 35
HeadOf kinds.Number b = Unit {0}
HeadOf kinds.Words b = b ≡ 39
HeadOf kinds.Enumeration b = b ≡ 46
HeadOf kinds.Bits b = b ≡ 34
HeadOf kinds.Single b = is_single b ≡ true

head_is : (b : ℕ) (k other : TokenKind) → Some k ≡ Some other → HeadOf other b → HeadOf k b
head_is b k other h w = let e : other ≡ k = cc in subst (λ (x : TokenKind). HeadOf x b) e w

head_of : (b : ℕ) (k : TokenKind) → Some k ≡ kind_of b → HeadOf k b
head_of b k h = elim (cases_Bool (is_single b)) [
  | inl t ↦ head_is b k kinds.Single (rw t at h) t
  | inr t ↦ (let h2 = rw t at h in elim (cases_Bool (is_digit b || is_sign b)) [
    | inl u ↦ head_is b k kinds.Number (rw u at h2) tt
    | inr u ↦ (let h3 = rw u at h2 in elim (cases_Bool (b == 35)) [
      | inl v ↦ head_is b k kinds.Name (rw v at h3) (eqb-true _ _ v)
      | inr v ↦ (let h4 = rw v at h3 in elim (cases_Bool (is_letter b || b == 33)) [
        | inl x ↦ head_is b k kinds.Word (rw x at h4) tt
        | inr x ↦ (let h5 = rw x at h4 in elim (cases_Bool (b == 39)) [
          | inl y ↦ head_is b k kinds.Words (rw y at h5) (eqb-true _ _ y)
          | inr y ↦ (let h6 = rw y at h5 in elim (cases_Bool (b == 46)) [
            | inl z ↦ head_is b k kinds.Enumeration (rw z at h6) (eqb-true _ _ z)
            | inr z ↦ (let h7 = rw z at h6 in elim (cases_Bool (b == 34)) [
              | inl q ↦ head_is b k kinds.Bits (rw q at h7) (eqb-true _ _ q)
              | inr q ↦ (let h8 = rw q at h7 in cc)
            ])
          ])
        ])
      ])
    ])
  ])
]

name_spelled : (b : ℕ) (bs : List ℕ) (m : ℕ) → b ≡ 35 → name_span bs ≡ Some m → Begins IsName (b ∷ bs) (m + 1)
name_spelled b bs m e h = elim (cases_Bool (nat_lt 0 (name_run 0 bs))) [
  | inl t ↦ (let h2 = rw t at h in
      let f : name_run 0 bs ≡ m = cc in
      let lt = ltb-true 0 (name_run 0 bs) t in
      let r = name_front 0 bs (omega arith) in
      record {
        front = b ∷ r.front;
        rest = r.rest;
        whole = ap (λ x. b ∷ x) r.whole;
        size = omega (arith, r.size, f);
        is = record { digits = r.front; whole = ap (λ x. x ∷ r.front) e; are_digits = (r.is.0, omega (arith, r.size, lt)); bound = r.is.1 };
      })
  | inr t ↦ (let h2 = rw t at h in cc)
]

text_spelled : (b : ℕ) (bs : List ℕ) (m : ℕ) → b ≡ 39 → text_span bs ≡ Some m → Begins IsText (b ∷ bs) (m + 1)
text_spelled b bs m e h =
    let r = text_is bs m h in
    let w : b ∷ r.front ≡ 39 ∷ (r.is.0 ++ 39 ∷ []) = ap (λ x. x ∷ r.front) e ∙ ap (λ x. 39 ∷ x) r.is.1 in
    record { front = b ∷ r.front; rest = r.rest; whole = ap (λ x. b ∷ x) r.whole; size = omega (arith, r.size); is = record { inner = r.is.0; whole = w; doubled = r.is.2 } }

one_true : (c : ℕ) (bs : List ℕ) → one is_letter (c ∷ bs) == 1 ≡ true → is_letter c ≡ true
one_true c bs h = elim (cases_Bool (is_letter c)) [ inl k ↦ k | inr k ↦ (let h2 = rw k at h in cc) ]

enumeration_word : (b : ℕ) (bs d front rest : List ℕ) → b ≡ 46 → one is_letter bs == 1 ≡ true → bs ≡ front ++ rest → front ≡ d ++ 46 ∷ [] → AreAll is_letter_or_digit d → IsEnumeration (b ∷ front)
enumeration_word b bs [] front rest e h w f all = absurd (let g : bs ≡ 46 ∷ rest = w ∙ ap (λ x. x ++ rest) f in let h2 = rw g at h in cc)
enumeration_word b bs (c ∷ d) front rest e h w f all =
    let g : bs ≡ c ∷ ((d ++ 46 ∷ []) ++ rest) = w ∙ ap (λ x. x ++ rest) f in
    record { first = c; others = d; whole = ap (λ x. x ∷ front) e ∙ ap (λ x. 46 ∷ x) f; is_first = one_true c ((d ++ 46 ∷ []) ++ rest) (rw g at h); are_others = (and_parts (is_letter_or_digit c) _ all).1 }

enumeration_spelled : (b : ℕ) (bs : List ℕ) (m : ℕ) → b ≡ 46 → enumeration_span bs ≡ Some m → Begins IsEnumeration (b ∷ bs) (m + 1)
unfolding enumeration_span
enumeration_spelled b bs m e h = elim (cases_Bool (one is_letter bs == 1)) [
  | inl t ↦ (let r = closed_is is_letter_or_digit 46 bs m (rw t at h) in
      record { front = b ∷ r.front; rest = r.rest; whole = ap (λ x. b ∷ x) r.whole; size = omega (arith, r.size); is = enumeration_word b bs r.is.0 r.front r.rest e t r.whole r.is.1 r.is.2 })
  | inr t ↦ (let h2 = rw t at h in cc)
]

bits_some : (bs d front rest : List ℕ) → 0 < run is_hexadecimal bs → bs ≡ front ++ rest → front ≡ d ++ 34 ∷ [] → AreAll is_hexadecimal d → 0 < length d
bits_some bs d front rest lt w f all =
    let g : bs ≡ d ++ (34 ∷ rest) = w ∙ ap (λ x. x ++ rest) f ∙ append_assoc d (34 ∷ []) rest in
    let far = run_over is_hexadecimal d (34 ∷ rest) all in
    let lt2 = rw g at lt in
    omega (arith, far, lt2)

bits_spelled : (b : ℕ) (bs : List ℕ) (m : ℕ) → b ≡ 34 → bits_span bs ≡ Some m → Begins IsBits (b ∷ bs) (m + 1)
unfolding bits_span
bits_spelled b bs m e h = elim (cases_Bool (nat_lt 0 (run is_hexadecimal bs))) [
  | inl t ↦ (let r = closed_is is_hexadecimal 34 bs m (rw t at h) in
      record {
        front = b ∷ r.front;
        rest = r.rest;
        whole = ap (λ x. b ∷ x) r.whole;
        size = omega (arith, r.size);
        is = record { digits = r.is.0; whole = ap (λ x. x ∷ r.front) e ∙ ap (λ x. 34 ∷ x) r.is.1; are_digits = (r.is.2, bits_some bs r.is.0 r.front r.rest (ltb-true 0 _ t) r.whole r.is.1 r.is.2) };
      })
  | inr t ↦ (let h2 = rw t at h in cc)
]

pub spelled : (k : TokenKind) (b : ℕ) (bs : List ℕ) (n : ℕ) → Some k ≡ kind_of b → span k (b ∷ bs) ≡ Some n → Begins (Spells k) (b ∷ bs) n
unfolding span
spelled kinds.Word b bs n h s = word_is (b ∷ bs) n s
spelled kinds.Name b bs n h s = let got = plus_one n (name_span bs) s in rw got.2 (name_spelled b bs got.0 (head_of b kinds.Name h) got.1)
spelled kinds.Number b bs n h s = number_is (b ∷ bs) n s
spelled kinds.Words b bs n h s = let got = plus_one n (text_span bs) s in rw got.2 (text_spelled b bs got.0 (head_of b kinds.Words h) got.1)
spelled kinds.Enumeration b bs n h s = let got = plus_one n (enumeration_span bs) s in rw got.2 (enumeration_spelled b bs got.0 (head_of b kinds.Enumeration h) got.1)
spelled kinds.Bits b bs n h s = let got = plus_one n (bits_span bs) s in rw got.2 (bits_spelled b bs got.0 (head_of b kinds.Bits h) got.1)
spelled kinds.Single b bs n h s =
    record { front = b ∷ []; rest = bs; whole = refl; size = (let e : 1 ≡ n = cc in e); is = record { byte = b; whole = refl; single = head_of b kinds.Single h } }

-- Any spelling at the front is of the first byte's kind.
same_kind : (b : ℕ) (bs : List ℕ) (other : TokenKind) (front rest : List ℕ) → front ++ rest ≡ b ∷ bs → Spells other front → kind_of b ≡ Some other
same_kind b bs other front rest w is =
    let hd = headed other front is in
    let e : hd.head ∷ (hd.tail ++ rest) ≡ b ∷ bs = ap (λ x. x ++ rest) (sym hd.whole) ∙ w in
    let f : hd.head ≡ b = cc in
    ap kind_of (sym f) ∙ hd.kind

-- It is no longer than the span.
none_longer : (b : ℕ) (bs : List ℕ) (k other : TokenKind) (m : ℕ) → Some k ≡ kind_of b → m ≤ length (b ∷ bs) → Spells other (take m (b ∷ bs)) → Reaches (span k (b ∷ bs)) m
none_longer b bs k other m h le is =
    let w : take m (b ∷ bs) ++ drop m (b ∷ bs) ≡ b ∷ bs = take-append-drop m (b ∷ bs) in
    let e : kind_of b ≡ Some other = same_kind b bs other (take m (b ∷ bs)) (drop m (b ∷ bs)) w is in
    let f : other ≡ k = (let g : Some k ≡ Some other = h ∙ e in cc) in
    let r = reaches other (take m (b ∷ bs)) (drop m (b ∷ bs)) is in
    let l : length (take m (b ∷ bs)) ≡ m = length-take-le m (b ∷ bs) le in
    record { n = r.n; some = ap (λ x. span x (b ∷ bs)) (sym f) ∙ ap (λ x. span other x) (sym w) ∙ r.some; far = omega (arith, r.far, l) }

take_front : (bs front rest : List ℕ) (n : ℕ) → bs ≡ front ++ rest → length front ≡ n → take n bs ≡ front
take_front bs front rest n w e = rw (w, ← e) (take-append_seam front rest)

is_first_along : (bs cs : List ℕ) (k : TokenKind) (m n : ℕ) → bs ≡ cs → m ≡ n → IsFirst cs k n → IsFirst bs k m
is_first_along bs cs k m n e f h = rw (e, f) h

first_here : (b : ℕ) (bs : List ℕ) (k : TokenKind) (n : ℕ) → Some k ≡ kind_of b → span k (b ∷ bs) ≡ Some n → (0 < n) × IsFirst (b ∷ bs) k n
first_here b bs k n h s =
    let r = spelled k b bs n h s in
    let hd = headed k r.front r.is in
    let l : length r.front ≡ length hd.tail + 1 = ap length hd.whole ∙ omega arith in
    let t : take n (b ∷ bs) ≡ r.front = take_front (b ∷ bs) r.front r.rest n r.whole r.size in
    let all : length (b ∷ bs) ≡ length r.front + length r.rest = ap length r.whole ∙ length-append r.front r.rest in (
      omega (arith, r.size, l),
      record {
        within = omega (arith, all, r.size);
        spelled = rw t r.is;
        longest = λ other m le is. (let q = none_longer b bs k other m h le is in let same : q.n ≡ n = (let g : Some q.n ≡ Some n = sym q.some ∙ s in cc) in omega (arith, q.far, same));
      },
    )

pub first_at : (bs : List ℕ) (at e : ℕ) (k : TokenKind) → at < length bs → Some k ≡ kind_of (get_or bs at 0) → Some e ≡ option_map (λ n. at + n) (span k (drop at bs)) → (at < e) × IsFirst (drop at bs) k (e - at)
first_at bs at e k lt h s =
    let got = found_at at e (span k (drop at bs)) s in
    let c : drop at bs ≡ get_or bs at 0 ∷ drop (suc at) bs = drop-cons bs at 0 lt in
    let r = first_here (get_or bs at 0) (drop (suc at) bs) k got.0 h (ap (λ x. span k x) (sym c) ∙ got.1) in
    let m : e - at ≡ got.0 = omega (arith, got.2) in
    (omega (arith, got.2, r.0), is_first_along (drop at bs) (get_or bs at 0 ∷ drop (suc at) bs) k (e - at) got.0 c m r.1)

none_here_kind : (b : ℕ) (bs : List ℕ) → None ≡ kind_of b → HasNone (b ∷ bs)
none_here_kind b bs h k m le is =
    let e = same_kind b bs k (take m (b ∷ bs)) (drop m (b ∷ bs)) (take-append-drop m (b ∷ bs)) is in
    let f : None ≡ Some k = h ∙ e in cc

none_here_span : (b : ℕ) (bs : List ℕ) (k : TokenKind) → Some k ≡ kind_of b → span k (b ∷ bs) ≡ None → HasNone (b ∷ bs)
none_here_span b bs k h s other m le is = let q = none_longer b bs k other m h le is in let f : None ≡ Some q.n = sym s ∙ q.some in cc

pub none_by_kind : (bs : List ℕ) (at : ℕ) → at < length bs → None ≡ kind_of (get_or bs at 0) → HasNone (drop at bs)
none_by_kind bs at lt h = rw (drop-cons bs at 0 lt) (none_here_kind _ _ h)

pub none_by_span : (bs : List ℕ) (at : ℕ) (k : TokenKind) → at < length bs → Some k ≡ kind_of (get_or bs at 0) → None ≡ option_map (λ n. at + n) (span k (drop at bs)) → HasNone (drop at bs)
none_by_span bs at k lt h s =
    let c : drop at bs ≡ get_or bs at 0 ∷ drop (suc at) bs = drop-cons bs at 0 lt in
    rw c (none_here_span _ _ k h (ap (λ x. span k x) (sym c) ∙ none_at at _ s))
