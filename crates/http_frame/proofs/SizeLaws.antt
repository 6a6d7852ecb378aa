-- What a walk byte by byte tells of the line before a chunk.
use Rattle.std.proofs.Common.{◌≡◌, ℕ, zero, suc, ◌+◌, ◌<◌, ◌≤◌, ◌==◌, Bool, true, false, List, [], ◌∷◌, ◌++◌, length, if◌then◌else◌, Option, Some, None, refl, sym, ap, ◌∙◌, arith, append_assoc, subst}
use Rattle.std.specs.Prelude.{nat_lt, ⊤}
use Rattle.std.specs.Char.{is_ascii_hexdigit}
use Rattle.std.proofs.lemmas.List.{append-nil}
use Rattle.std.proofs.lemmas.Bool.{eqb-true, ne_eqb}
use Rattle.std.proofs.lemmas.List.Elements.{All-head, All-tail, All-cons, All-nil}
use Rattle.httparse.specs.Grammar.{AllPass, is_ows, is_extension_byte, print_extension, IsExtension, ChunkLine, print_chunk_line}
use Rattle.http_frame.specs.declared.size_line.SizeSpot.{SizeSpot}
use Rattle.http_frame.specs.declared.size_line.SizeSpot.TheVariants.{Digits, Extension, Cr, Whole, Wrong}
use Rattle.http_frame.specs.Bodies.{ReadsSize, NeverHasSize}
use Rattle.http_frame.specs.ChunkSizes.{size_step, size_run}

pub size_run-append : (s : SizeSpot) (xs ys : List ℕ) → size_run s (xs ++ ys) ≡ size_run (size_run s xs) ys
size_run-append s [] ys = refl
size_run-append s (b ∷ xs) ys = size_run-append (size_step s b) xs ys

pub run_wrong : (t : List ℕ) → size_run Wrong t ≡ Wrong
run_wrong [] = refl
run_wrong (b ∷ t) = run_wrong t

run_whole : (t : List ℕ) → size_run Whole t ≡ Whole
run_whole [] = refl
run_whole (b ∷ t) = run_whole t

-- ---- a right line is walked to its end

digit_step : (h c : Bool) (n : ℕ) (o : SizeSpot) → h ≡ true → c ≡ true → (if h then (if c then Digits (n + 1) else Wrong) else o) ≡ Digits (n + 1)
digit_step true true n o e f = refl
digit_step true false n o e f = cc
digit_step false c n o e f = cc

below : (n m : ℕ) → n < m → nat_lt n m ≡ true
below n m e = grind arith

run_digits : (n : ℕ) (ds t : List ℕ) → AllPass is_ascii_hexdigit ds → n + length ds ≤ 8 → size_run (Digits n) (ds ++ t) ≡ size_run (Digits (n + length ds)) t
run_digits n [] t all few = ap (λ k. size_run (Digits k) t) (sum n)
  where
    sum : (n : ℕ) → n ≡ n + 0
    sum n = omega arith
run_digits n (b ∷ ds) t all few =
    let lt : n < 8 = omega arith in
    let fits : (n + 1) + length ds ≤ 8 = omega arith in
    ap (λ s. size_run s (ds ++ t)) (digit_step (is_ascii_hexdigit b) (nat_lt n 8) n _ (All-head (λ v. is_ascii_hexdigit v ≡ true) b ds all) (below n 8 lt))
    ∙ run_digits (n + 1) ds t (All-tail (λ v. is_ascii_hexdigit v ≡ true) b ds all) fits
    ∙ ap (λ k. size_run (Digits k) t) (sum n (length ds))
  where
    sum : (n m : ℕ) → (n + 1) + m ≡ n + suc m
    sum n m = omega arith

text_step : (c d l : Bool) (n : ℕ) → c ≡ false → d ≡ false → l ≡ true → (if c then Cr else (if d then Wrong else (if l then Extension (n + 1) else Wrong))) ≡ Extension (n + 1)
text_step true d l n e f g = cc
text_step false true l n e f g = cc
text_step false false true n e f g = refl
text_step false false false n e f g = cc

not_cr : (b : ℕ) → is_extension_byte b ≡ true → b ≡ 13 → ⊥
not_cr b t e = let bad : false ≡ true = subst (λ (v : ℕ). is_extension_byte v ≡ true) e t in cc

not_lf : (b : ℕ) → is_extension_byte b ≡ true → b ≡ 10 → ⊥
not_lf b t e = let bad : false ≡ true = subst (λ (v : ℕ). is_extension_byte v ≡ true) e t in cc

run_text : (n : ℕ) (xs t : List ℕ) → AllPass is_extension_byte xs → n + length xs ≤ 256 → size_run (Extension n) (xs ++ 13 ∷ 10 ∷ t) ≡ Whole
run_text n [] t all few = run_whole t
run_text n (b ∷ xs) t all few =
    let lt : n < 256 = omega arith in
    let fits : (n + 1) + length xs ≤ 256 = omega arith in
    let here = All-head (λ v. is_extension_byte v ≡ true) b xs all in
    ap (λ s. size_run s (xs ++ 13 ∷ 10 ∷ t)) (text_step (b == 13) (b == 10) (nat_lt n 256) n (ne_eqb b 13 (not_cr b here)) (ne_eqb b 10 (not_lf b here)) (below n 256 lt))
    ∙ run_text (n + 1) xs t (All-tail (λ v. is_extension_byte v ≡ true) b xs all) fits

past_digits : (z : Bool) (s o : SizeSpot) → z ≡ false → s ≡ (if z then Wrong else o) → s ≡ o
past_digits true s o e f = cc
past_digits false s o e f = f

run_behind : (n : ℕ) (e : Option (List ℕ)) (t : List ℕ) → 0 < n → IsExtension e → length (print_extension e) ≤ 257 → size_run (Digits n) (print_extension e ++ 13 ∷ 10 ∷ t) ≡ Whole
run_behind n None t some is few =
    ap (λ s. size_run s (10 ∷ t)) (past_digits (n == 0) (size_step (Digits n) 13) Cr (ne_eqb n 0 (λ e. omega arith)) refl) ∙ run_whole t
run_behind n (Some xs) t some is few =
    let fits : 0 + length xs ≤ 256 = omega arith in
    ap (λ s. size_run s (xs ++ 13 ∷ 10 ∷ t)) (past_digits (n == 0) (size_step (Digits n) 59) (Extension 0) (ne_eqb n 0 (λ e. omega arith)) refl) ∙ run_text 0 xs t is fits

pub line_text : (l : ChunkLine) (rest : List ℕ) → l.pad ≡ [] → print_chunk_line l ++ rest ≡ l.digits ++ (print_extension l.extension ++ 13 ∷ 10 ∷ rest)
unfolding print_chunk_line
line_text l rest e =
    ap (λ p. (((l.digits ++ p) ++ print_extension l.extension) ++ 13 ∷ 10 ∷ []) ++ rest) e
    ∙ regroup l.digits (print_extension l.extension) (13 ∷ 10 ∷ []) rest
  where
    regroup : (a b c d : List ℕ) → (((a ++ []) ++ b) ++ c) ++ d ≡ a ++ (b ++ (c ++ d))
    regroup a b c d =
        ap (λ x. ((x ++ b) ++ c) ++ d) (append-nil a) ∙ append_assoc (a ++ b) c d ∙ append_assoc a b (c ++ d)

pub right_is_whole : (text : List ℕ) (l : ChunkLine) (rest : List ℕ) → ReadsSize text l rest → size_run (Digits 0) text ≡ Whole
right_is_whole text l rest x =
    let behind = print_extension l.extension ++ 13 ∷ 10 ∷ rest in
    let few : 0 + length l.digits ≤ 8 = let f : length l.digits ≤ 8 = x.0.few in omega arith in
    let some : 0 < 0 + length l.digits = let f : 0 < length l.digits = x.1.0.digits.0 in omega arith in
    ap (size_run (Digits 0)) (x.1.1 ∙ line_text l rest x.0.no_pad) ∙ run_digits 0 l.digits behind x.1.0.digits.2 few
    ∙ run_behind (0 + length l.digits) l.extension rest some x.1.0.extension x.0.short

-- after a byte that no right line has there no right line comes
pub wrong_is_never : (text : List ℕ) → size_run (Digits 0) text ≡ Wrong → NeverHasSize text
wrong_is_never text e more l rest x =
    let a : size_run (Digits 0) (text ++ more) ≡ Wrong = size_run-append (Digits 0) text more ∙ ap (λ s. size_run s more) e ∙ run_wrong more in
    apart (sym (right_is_whole (text ++ more) l rest x) ∙ a)
  where
    apart : Whole ≡ Wrong → ⊥
    apart e = cc

-- ---- what is not wrong is a right line, or can be completed to one

abbrev pub From : SizeSpot → List ℕ → Type 0
From (Digits n) t =
    (ds : List ℕ) × (e : Option (List ℕ)) × (rest : List ℕ) × AllPass is_ascii_hexdigit ds × (n ≤ 8 → n + length ds ≤ 8) × (0 < n + length ds)
    × IsExtension e × (length (print_extension e) ≤ 257) × (t ≡ ds ++ (print_extension e ++ 13 ∷ 10 ∷ rest))
From (Extension n) t = (xs : List ℕ) × (rest : List ℕ) × AllPass is_extension_byte xs × (n ≤ 256 → n + length xs ≤ 256) × (t ≡ xs ++ 13 ∷ 10 ∷ rest)
From Cr t = (rest : List ℕ) × (t ≡ 10 ∷ rest)
From Whole t = ⊤
From Wrong t = ⊥

back_digits : (n b : ℕ) (t : List ℕ) (h c z s r : Bool) → (h ≡ true → is_ascii_hexdigit b ≡ true) → (c ≡ true → n < 8) → (z ≡ false → 0 < n) → (s ≡ true → b ≡ 59) → (r ≡ true → b ≡ 13)
    → From (if h then (if c then Digits (n + 1) else Wrong) else (if z then Wrong else (if s then Extension 0 else (if r then Cr else Wrong)))) t → From (Digits n) (b ∷ t)
back_digits n b t true true z s r hex lt nz semi cr (ds, e, rest, all, few, some, is, short, whole) =
    (b ∷ ds, e, rest, All-cons (λ v. is_ascii_hexdigit v ≡ true) b ds (hex refl) all, fit n (length ds) (lt refl) few, pos n (length ds), is, short, ap (λ v. b ∷ v) whole)
  where
    fit : (n m : ℕ) → n < 8 → (n + 1 ≤ 8 → (n + 1) + m ≤ 8) → n ≤ 8 → n + suc m ≤ 8
    fit n m lt few le = let f : (n + 1) + m ≤ 8 = few (omega arith) in omega arith

    pos : (n m : ℕ) → 0 < n + suc m
    pos n m = omega arith
back_digits n b t true false z s r hex lt nz semi cr x = absurd x
back_digits n b t false c true s r hex lt nz semi cr x = absurd x
back_digits n b t false c false true r hex lt nz semi cr (xs, rest, all, few, whole) =
    ([], Some xs, rest, All-nil (λ v. is_ascii_hexdigit v ≡ true), le n, pos n (nz refl), all, fit (length xs) (few (omega arith)), ap (λ v. v ∷ t) (semi refl) ∙ ap (λ v. 59 ∷ v) whole)
  where
    le : (n : ℕ) → n ≤ 8 → n + 0 ≤ 8
    le n e = omega arith

    pos : (n : ℕ) → 0 < n → 0 < n + 0
    pos n e = omega arith

    fit : (m : ℕ) → 0 + m ≤ 256 → suc m ≤ 257
    fit m e = omega arith
back_digits n b t false c false false true hex lt nz semi cr (rest, whole) =
    ([], None, rest, All-nil (λ v. is_ascii_hexdigit v ≡ true), le n, pos n (nz refl), tt, omega arith, ap (λ v. v ∷ t) (cr refl) ∙ ap (λ v. 13 ∷ v) whole)
  where
    le : (n : ℕ) → n ≤ 8 → n + 0 ≤ 8
    le n e = omega arith

    pos : (n : ℕ) → 0 < n → 0 < n + 0
    pos n e = omega arith
back_digits n b t false c false false false hex lt nz semi cr x = absurd x

back_text : (n b : ℕ) (t : List ℕ) (c d l : Bool) → (c ≡ true → b ≡ 13) → (c ≡ false → d ≡ false → is_extension_byte b ≡ true) → (l ≡ true → n < 256)
    → From (if c then Cr else (if d then Wrong else (if l then Extension (n + 1) else Wrong))) t → From (Extension n) (b ∷ t)
back_text n b t true d l cr any lt (rest, whole) =
    ([], rest, All-nil (λ v. is_extension_byte v ≡ true), le n, ap (λ v. v ∷ t) (cr refl) ∙ ap (λ v. 13 ∷ v) whole)
  where
    le : (n : ℕ) → n ≤ 256 → n + 0 ≤ 256
    le n e = omega arith
back_text n b t false true l cr any lt x = absurd x
back_text n b t false false true cr any lt (xs, rest, all, few, whole) =
    (b ∷ xs, rest, All-cons (λ v. is_extension_byte v ≡ true) b xs (any refl refl) all, fit n (length xs) (lt refl) few, ap (λ v. b ∷ v) whole)
  where
    fit : (n m : ℕ) → n < 256 → (n + 1 ≤ 256 → (n + 1) + m ≤ 256) → n ≤ 256 → n + suc m ≤ 256
    fit n m lt few le = let f : (n + 1) + m ≤ 256 = few (omega arith) in omega arith
back_text n b t false false false cr any lt x = absurd x

back_cr : (b : ℕ) (t : List ℕ) (c : Bool) → (c ≡ true → b ≡ 10) → From (if c then Whole else Wrong) t → From Cr (b ∷ t)
back_cr b t true e x = (t, ap (λ v. v ∷ t) (e refl))
back_cr b t false e x = absurd x

lt_of : (n m : ℕ) → nat_lt n m ≡ true → n < m
lt_of n m e = grind arith

pos_of : (n : ℕ) → (n == 0) ≡ false → 0 < n
pos_of n e = grind arith

plain : (b : ℕ) (c d : Bool) → b == 13 ≡ c → b == 10 ≡ d → c ≡ false → d ≡ false → is_extension_byte b ≡ true
plain b c d e f g h = rw (e, f, g, h) refl

back : (s : SizeSpot) (b : ℕ) (t : List ℕ) → From (size_step s b) t → From s (b ∷ t)
back (Digits n) b t x = back_digits n b t (is_ascii_hexdigit b) (nat_lt n 8) (n == 0) (b == 59) (b == 13) (λ e. e) (lt_of n 8) (pos_of n) (eqb-true b 59) (eqb-true b 13) x
back (Extension n) b t x = back_text n b t (b == 13) (b == 10) (nat_lt n 256) (eqb-true b 13) (plain b (b == 13) (b == 10) refl refl) (lt_of n 256) x
back Cr b t x = back_cr b t (b == 10) (eqb-true b 10) x
back Whole b t x = tt
back Wrong b t x = x

-- what may follow a spot
abbrev MayFollow : SizeSpot → List ℕ → Type 0
MayFollow s text = (more : List ℕ) × From s (text ++ more)

complete : (s : SizeSpot) (text : List ℕ) → (size_run s text ≡ Wrong → ⊥) → MayFollow s text
complete (Digits zero) [] right =
    (48 ∷ 13 ∷ 10 ∷ [], (48 ∷ [], None, [], All-cons (λ v. is_ascii_hexdigit v ≡ true) 48 [] refl (All-nil (λ v. is_ascii_hexdigit v ≡ true)), λ e. omega arith, omega arith, tt, omega arith, refl))
complete (Digits (suc n)) [] right =
    (13 ∷ 10 ∷ [], ([], None, [], All-nil (λ v. is_ascii_hexdigit v ≡ true), λ e. omega arith, omega arith, tt, omega arith, refl))
complete (Extension n) [] right = (13 ∷ 10 ∷ [], ([], [], All-nil (λ v. is_extension_byte v ≡ true), le n, refl))
  where
    le : (n : ℕ) → n ≤ 256 → n + 0 ≤ 256
    le n e = omega arith
complete Cr [] right = (10 ∷ [], ([], refl))
complete Whole [] right = ([], tt)
complete Wrong [] right = absurd (right refl)
complete s (b ∷ text) right = let r = complete (size_step s b) text right in (r.0, back s b (text ++ r.0) r.1)

right_line : (text : List ℕ) → From (Digits 0) text → (l : ChunkLine) × (rest : List ℕ) × ReadsSize text l rest
right_line text (ds, e, rest, all, few, some, is, short, whole) =
    let l : ChunkLine = record { digits = ds; pad = []; extension = e } in
    let eight : length ds ≤ 8 = let f : 0 + length ds ≤ 8 = few (omega arith) in omega arith in (
      l,
      rest,
      (
        record { no_pad = refl; few = eight; short = short },
        (record { digits = (omega arith, omega arith, all); pad = All-nil (λ v. is_ows v ≡ true); extension = is }, whole ∙ sym (line_text l rest refl)),
      ),
    )

-- after the last byte of a right line the text begins with one
pub whole_is_right : (text : List ℕ) → size_run (Digits 0) text ≡ Whole → (l : ChunkLine) × (rest : List ℕ) × ReadsSize text l rest
whole_is_right text e = right_line text (subst (λ (t : List ℕ). From (Digits 0) t) (append-nil text) (now (Digits 0) text e))
  where
    now : (s : SizeSpot) (text : List ℕ) → size_run s text ≡ Whole → From s (text ++ [])
    now (Digits n) [] e = cc
    now (Extension n) [] e = cc
    now Cr [] e = cc
    now Whole [] e = tt
    now Wrong [] e = cc
    now s (b ∷ text) e = back s b (text ++ []) (now (size_step s b) text e)

-- where the walk is not wrong, some bytes make a right line: so the text is wrong at the first byte that no right line has there
pub not_wrong_may_be_right : (text : List ℕ) → (size_run (Digits 0) text ≡ Wrong → ⊥) → ¬ (NeverHasSize text)
not_wrong_may_be_right text right never =
    let r = complete (Digits 0) text right in
    let l = right_line (text ++ r.0) r.1 in never r.0 l.0 l.1 l.2
