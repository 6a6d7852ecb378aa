-- Bytes are their parts, and a number has these parts alone.
use Rattle.std.proofs.Common.{◌≡◌, ℕ, ◌<◌, ◌==◌, ◌⊎◌, inl, inr, List, [], ◌∷◌, ◌++◌, length, true, false, refl, ap, ◌∙◌, arith, Option, Some, None}
use Rattle.std.proofs.Math.Seq.{drop-append_seam}
use Rattle.std.proofs.lemmas.Bool.{eqb-true, cases_Bool, and_parts}
use Rattle.std.proofs.lemmas.Bool.Decides.{nat_tests}
use Rattle.bim_text.specs.NumberSpellings.{Sign, Unsigned, Plus, Minus, Exponent, Spelling, sign_bytes, fraction_bytes, exponent_bytes, bytes_of, AreDigits, fraction_digits, IsExponent, IsNumber}
use Rattle.p21_lexer.specs.Spelling.{is_digit}
use Rattle.bim_text.specs.inner.NumberScanning.{front, sign_at, fraction_at, exponent_at, unsigned, behind_front, behind_fraction, parts}

-- The parts are the bytes.

sign_whole : (bs : List ℕ) → bs ≡ sign_bytes (sign_at bs) ++ unsigned bs
sign_whole [] = refl
sign_whole (b ∷ bs) = elim (cases_Bool (b == 43)) [
  | inl k ↦ (let e = eqb-true _ _ k in rw (k, e) refl)
  | inr k ↦ rw k (elim (cases_Bool (b == 45)) [
    | inl m ↦ (let e = eqb-true _ _ m in rw (m, e) refl)
    | inr m ↦ rw m refl
  ])
]

pub front_whole : (bs : List ℕ) → bs ≡ front bs ++ behind_front bs
front_whole [] = refl
front_whole (b ∷ bs) = elim (cases_Bool (is_digit b)) [
  | inl k ↦ rw k (ap (λ (l : List ℕ). b ∷ l) (front_whole bs))
  | inr k ↦ rw k refl
]

pub front_digits : (bs : List ℕ) → AreDigits (front bs)
front_digits [] = refl
front_digits (b ∷ bs) = elim (cases_Bool (is_digit b)) [
  | inl k ↦ rw (k, k) (front_digits bs)
  | inr k ↦ rw k refl
]

fraction_whole : (bs : List ℕ) → bs ≡ fraction_bytes (fraction_at bs) ++ behind_fraction bs
fraction_whole [] = refl
fraction_whole (b ∷ bs) = elim (cases_Bool (b == 46)) [
  | inl k ↦ (let e = eqb-true _ _ k in rw (k, e) (ap (λ (l : List ℕ). 46 ∷ l) (front_whole bs)))
  | inr k ↦ rw k refl
]

pub fraction_are_digits : (bs : List ℕ) → AreDigits (fraction_digits (fraction_at bs))
fraction_are_digits [] = refl
fraction_are_digits (b ∷ bs) = elim (cases_Bool (b == 46)) [
  | inl k ↦ rw k (front_digits bs)
  | inr k ↦ rw k refl
]

exponent_whole : (bs : List ℕ) → bs ≡ exponent_bytes (exponent_at bs)
exponent_whole [] = refl
exponent_whole (b ∷ bs) = ap (λ (l : List ℕ). b ∷ l) (sign_whole bs)

pub parts_whole : (bs : List ℕ) → bs ≡ bytes_of (parts bs)
parts_whole bs =
    let f = behind_front (unsigned bs) in
    let e3 : f ≡ fraction_bytes (fraction_at f) ++ exponent_bytes (exponent_at (behind_fraction f)) = fraction_whole f ∙ ap (λ (l : List ℕ). fraction_bytes (fraction_at f) ++ l) (exponent_whole (behind_fraction f)) in
    let e2 : unsigned bs ≡ front (unsigned bs) ++ (fraction_bytes (fraction_at f) ++ exponent_bytes (exponent_at (behind_fraction f))) = front_whole (unsigned bs) ∙ ap (λ (l : List ℕ). front (unsigned bs) ++ l) e3 in
    sign_whole bs ∙ ap (λ (l : List ℕ). sign_bytes (sign_at bs) ++ l) e2

-- A number has these parts alone.

no_plus : (b : ℕ) → is_digit b ≡ true → (b == 43) ≡ false
no_plus b h = elim (cases_Bool (b == 43)) [ inl k ↦ grind (arith, nat_tests) | inr k ↦ k ]

no_minus : (b : ℕ) → is_digit b ≡ true → (b == 45) ≡ false
no_minus b h = elim (cases_Bool (b == 45)) [ inl k ↦ grind (arith, nat_tests) | inr k ↦ k ]

-- before digits
sign_before : (s : Sign) (ds rest : List ℕ) → AreDigits ds → 0 < length ds → sign_at (sign_bytes s ++ (ds ++ rest)) ≡ s
sign_before s [] rest all lt = absurd (omega arith)
sign_before Unsigned (d ∷ ds) rest all lt = let h = (and_parts (is_digit d) _ all).0 in rw (no_plus d h, no_minus d h) refl
sign_before Plus (d ∷ ds) rest all lt = refl
sign_before Minus (d ∷ ds) rest all lt = refl

sign_before_all : (s : Sign) (ds : List ℕ) → AreDigits ds → 0 < length ds → sign_at (sign_bytes s ++ ds) ≡ s
sign_before_all s [] all lt = absurd (omega arith)
sign_before_all Unsigned (d ∷ ds) all lt = let h = (and_parts (is_digit d) _ all).0 in rw (no_plus d h, no_minus d h) refl
sign_before_all Plus (d ∷ ds) all lt = refl
sign_before_all Minus (d ∷ ds) all lt = refl

front_before : (ds rest : List ℕ) → AreDigits ds → front rest ≡ [] → front (ds ++ rest) ≡ ds
front_before [] rest all stop = stop
front_before (d ∷ ds) rest all stop = rw ((and_parts (is_digit d) _ all).0) (ap (λ (l : List ℕ). d ∷ l) (front_before ds rest (and_parts (is_digit d) _ all).1 stop))

mark_stops : (b : ℕ) → ((b ≡ 69) ⊎ (b ≡ 101)) → (is_digit b ≡ false) × ((b == 46) ≡ false)
mark_stops b (inl e) = rw e (refl, refl)
mark_stops b (inr e) = rw e (refl, refl)

exponent_stops : (e : Option Exponent) → IsExponent e → front (exponent_bytes e) ≡ []
exponent_stops None h = refl
exponent_stops (Some e) h = rw (mark_stops e.mark h.0).0 refl

exponent_no_point : (e : Option Exponent) → IsExponent e → fraction_at (exponent_bytes e) ≡ None
exponent_no_point None h = refl
exponent_no_point (Some e) h = rw (mark_stops e.mark h.0).1 refl

fraction_stops : (f : Option (List ℕ)) (e : Option Exponent) → IsExponent e → front (fraction_bytes f ++ exponent_bytes e) ≡ []
fraction_stops None e h = exponent_stops e h
fraction_stops (Some ds) e h = refl

fraction_before : (f : Option (List ℕ)) (e : Option Exponent) → AreDigits (fraction_digits f) → IsExponent e → fraction_at (fraction_bytes f ++ exponent_bytes e) ≡ f
fraction_before None e all h = exponent_no_point e h
fraction_before (Some ds) e all h = ap (λ (l : List ℕ). Some l) (front_before ds (exponent_bytes e) all (exponent_stops e h))

exponent_only : (e : Option Exponent) → IsExponent e → exponent_at (exponent_bytes e) ≡ e
exponent_only None h = refl
exponent_only (Some e) h =
    let s = sign_before_all e.sign e.digits h.1 h.2 in
    rw (s, drop-append_seam (sign_bytes e.sign) e.digits) refl

same_spelling : (s t : Spelling) → s.sign ≡ t.sign → s.whole ≡ t.whole → s.fraction ≡ t.fraction → s.exponent ≡ t.exponent → s ≡ t
same_spelling s t a b c d =
    ap (λ (x : Sign). record s { sign = x }) a ∙ ap (λ (x : List ℕ). record { sign = t.sign; whole = x; fraction = s.fraction; exponent = s.exponent }) b ∙ ap (λ (x : Option (List ℕ)). record { sign = t.sign; whole = t.whole; fraction = x; exponent = s.exponent }) c ∙ ap (λ (x : Option Exponent). record { sign = t.sign; whole = t.whole; fraction = t.fraction; exponent = x }) d

parts_of_bytes : (s : Spelling) → AreDigits s.whole → 0 < length s.whole → AreDigits (fraction_digits s.fraction) → IsExponent s.exponent → parts (bytes_of s) ≡ s
parts_of_bytes s all lt more e =
    let rest = fraction_bytes s.fraction ++ exponent_bytes s.exponent in
    let e1 : sign_at (bytes_of s) ≡ s.sign = sign_before s.sign s.whole rest all lt in
    let u : unsigned (bytes_of s) ≡ s.whole ++ rest = rw e1 (drop-append_seam (sign_bytes s.sign) (s.whole ++ rest)) in
    let e2 : front (s.whole ++ rest) ≡ s.whole = front_before s.whole rest all (fraction_stops s.fraction s.exponent e) in
    let v : behind_front (s.whole ++ rest) ≡ rest = rw e2 (drop-append_seam s.whole rest) in
    let e3 : fraction_at rest ≡ s.fraction = fraction_before s.fraction s.exponent more e in
    let w : behind_fraction rest ≡ exponent_bytes s.exponent = rw e3 (drop-append_seam (fraction_bytes s.fraction) (exponent_bytes s.exponent)) in
    let e4 : exponent_at (exponent_bytes s.exponent) ≡ s.exponent = exponent_only s.exponent e in
    same_spelling _ s e1
    (ap front u ∙ e2)
    (ap (λ (l : List ℕ). fraction_at (behind_front l)) u ∙ ap fraction_at v ∙ e3)
    (ap (λ (l : List ℕ). exponent_at (behind_fraction (behind_front l))) u ∙ ap (λ (l : List ℕ). exponent_at (behind_fraction l)) v ∙ ap exponent_at w ∙ e4)

pub parts_only : (s : Spelling) (bs : List ℕ) → IsNumber s bs → parts bs ≡ s
parts_only s bs n = rw n.whole (parts_of_bytes s n.digits n.some n.fraction n.exponent)
