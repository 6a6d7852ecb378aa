-- A chunked body byte by byte.
use Rattle.std.proofs.Common.{◌≡◌, ℕ, zero, suc, ◌+◌, ◌-◌, ◌*◌, ◌^◌, ◌<◌, ◌≤◌, ◌==◌, min, Bool, true, false, List, [], ◌∷◌, ◌++◌, length, take, if◌then◌else◌, Option, Some, None, refl, sym, ap, ◌∙◌, arith, append_assoc, inl, inr, ◌⊎◌, subst}
use Rattle.std.specs.Prelude.{nat_lt, nat_le, ◌||◌, ◌&&◌}
use Rattle.std.specs.Int.{is_in_range}
use Rattle.std.specs.List.{flat_map}
use Rattle.std.specs.Char.{is_ascii_hexdigit, digit_value}
use Rattle.std.specs.Str.Parse.{digits_value, AllDigits}
use Rattle.std.proofs.lemmas.Bool.{eqb-true}
use Rattle.std.proofs.lemmas.Int.Digits.{digits_value_push, digits_value-lt}
use Rattle.std.proofs.Math.Nat.{pow-le-pow_right}
use Rattle.std.proofs.lemmas.List.{append-nil, length-append}
use Rattle.std.proofs.lemmas.List.Elements.{All-head, All-tail, All-nil}
use Rattle.std.proofs.lemmas.Grind.{flat_map-append}
use Rattle.std.proofs.Math.Seq.{take-append_seam}
use Rattle.httparse.specs.Ascii.{crlf_bytes}
use Rattle.httparse.specs.Grammar.{AllPass, ChunkLine, chunk_size, print_chunk_line, print_extension, IsField}
use Rattle.http_frame.specs.declared.types.FrameFault.TheVariants.{BodyTooLong, BadChunk}
use Rattle.http_frame.specs.declared.field_lines.Place.TheVariants as place
use Rattle.http_frame.specs.declared.size_line.SizeSpot.{SizeSpot}
use Rattle.http_frame.specs.declared.size_line.SizeSpot.TheVariants.{Digits, Extension, Cr, Whole, Wrong}
use Rattle.http_frame.specs.declared.chunks.Part.{Part}
use Rattle.http_frame.specs.declared.chunks.Part.TheVariants.{Size, Data, Lf, Trailers}
use Rattle.http_frame.specs.declared.chunks.ChunkStep.{ChunkStep}
use Rattle.http_frame.specs.declared.chunks.ChunkStep.TheVariants as to
use Rattle.http_frame.specs.Heads.{chunked}
use Rattle.http_frame.specs.Bodies.{ReadsSize, ReadsChunk, ReadsChunks, room_left, ReadsLast, ReadsBody, FailsInBody}
use Rattle.http_frame.specs.Scan as scan
use Rattle.http_frame.specs.ChunkSizes.{size_step, size_run}
use Rattle.http_frame.specs.Chunks.{value_step, size_turn, chunk_step, trailer_turn, data_left, hex_front, IsInLine, IsInChunk, IsInTrailers, IsReading}
use Rattle.http_frame.proofs.BodyLaws.{size_more, chunks_more, last_more}
use Rattle.http_frame.proofs.HeadLaws.{take_past}
use Rattle.http_frame.proofs.SizeLaws.{size_run-append, run_wrong, line_text, right_is_whole, wrong_is_never, whole_is_right}
use Rattle.http_frame.proofs.Versions.{nothing}
use Rattle.http_frame.proofs.TrailerLaws.{IsTurned, trailer_byte}

-- ---- the number that the digits write

abbrev IsOff : SizeSpot → Type 0
IsOff (Digits n) = ⊥
IsOff (Extension n) = Unit {0}
IsOff Cr = Unit {0}
IsOff Whole = Unit {0}
IsOff Wrong = Unit {0}

off_text : (n : ℕ) (c d l : Bool) → IsOff (if c then Cr else (if d then Wrong else (if l then Extension (n + 1) else Wrong)))
off_text n true d l = tt
off_text n false true l = tt
off_text n false false true = tt
off_text n false false false = tt

off_cr : (c : Bool) → IsOff (if c then Whole else Wrong)
off_cr true = tt
off_cr false = tt

off_step : (s : SizeSpot) (b : ℕ) → IsOff s → IsOff (size_step s b)
off_step (Digits n) b o = absurd o
off_step (Extension n) b o = off_text n (b == 13) (b == 10) (nat_lt n 256)
off_step Cr b o = off_cr (b == 10)
off_step Whole b o = tt
off_step Wrong b o = tt

off_run : (s : SizeSpot) (t : List ℕ) → IsOff s → IsOff (size_run s t)
off_run s [] o = o
off_run s (b ∷ t) o = off_run (size_step s b) t (off_step s b o)

no_digits : (s : SizeSpot) (t : List ℕ) (m : ℕ) → IsOff s → size_run s t ≡ Digits m → ⊥
no_digits s t m o e = subst (λ (v : SizeSpot). IsOff v) e (off_run s t o)

digits_go : (n b : ℕ) (t : List ℕ) (m : ℕ) (h c z k r : Bool) → ((m : ℕ) → size_run (Digits (n + 1)) t ≡ Digits m → (hex_front t ≡ t) × (m ≡ (n + 1) + length t))
    → size_run (if h then (if c then Digits (n + 1) else Wrong) else (if z then Wrong else (if k then Extension 0 else (if r then Cr else Wrong)))) t ≡ Digits m
    → ((if h then b ∷ hex_front t else []) ≡ b ∷ t) × (m ≡ n + suc (length t))
digits_go n b t m true true z k r ih e = let x = ih m e in (ap (λ v. b ∷ v) x.0, omega (arith, x.1))
digits_go n b t m true false z k r ih e = absurd (no_digits Wrong t m tt e)
digits_go n b t m false c true k r ih e = absurd (no_digits Wrong t m tt e)
digits_go n b t m false c false true r ih e = absurd (no_digits (Extension 0) t m tt e)
digits_go n b t m false c false false true ih e = absurd (no_digits Cr t m tt e)
digits_go n b t m false c false false false ih e = absurd (no_digits Wrong t m tt e)

same_count : (n m : ℕ) → Digits n ≡ Digits m → n ≡ m
same_count n m e = cc

hex_all : (n : ℕ) (t : List ℕ) (m : ℕ) → size_run (Digits n) t ≡ Digits m → (hex_front t ≡ t) × (m ≡ n + length t)
hex_all n [] m e = (refl, let same = same_count n m e in omega arith)
hex_all n (b ∷ t) m e =
    digits_go n b t m (is_ascii_hexdigit b) (nat_lt n 8) (n == 0) (b == 59) (b == 13) (λ k. hex_all (n + 1) t k) e

-- after the digits
abbrev IsPast : SizeSpot → Type 0
IsPast (Digits n) = ⊥
IsPast (Extension n) = Unit {0}
IsPast Cr = Unit {0}
IsPast Whole = Unit {0}
IsPast Wrong = ⊥

stops_go : (n b : ℕ) (t more : List ℕ) (h c z k r : Bool) → (IsPast (size_run (Digits (n + 1)) t) → hex_front (t ++ more) ≡ hex_front t)
    → IsPast (size_run (if h then (if c then Digits (n + 1) else Wrong) else (if z then Wrong else (if k then Extension 0 else (if r then Cr else Wrong)))) t)
    → (if h then b ∷ hex_front (t ++ more) else []) ≡ (if h then b ∷ hex_front t else [])
stops_go n b t more true true z k r ih p = ap (λ v. b ∷ v) (ih p)
stops_go n b t more true false z k r ih p = absurd (subst (λ (v : SizeSpot). IsPast v) (run_wrong t) p)
stops_go n b t more false c z k r ih p = refl

hex_stops : (n : ℕ) (t more : List ℕ) → IsPast (size_run (Digits n) t) → hex_front (t ++ more) ≡ hex_front t
hex_stops n [] more p = absurd p
hex_stops n (b ∷ t) more p =
    stops_go n b t more (is_ascii_hexdigit b) (nat_lt n 8) (n == 0) (b == 59) (b == 13) (hex_stops (n + 1) t more) p

pick_hex : (h : Bool) (b : ℕ) (x : List ℕ) → h ≡ false → (if h then b ∷ x else []) ≡ []
pick_hex true b x e = let bad : true ≡ false = e in cc
pick_hex false b x e = refl

cut_go : (c : ℕ) (h : Bool) (x y : List ℕ) → x ≡ y → (if h then c ∷ x else []) ≡ (if h then c ∷ y else [])
cut_go c true x y e = ap (λ v. c ∷ v) e
cut_go c false x y e = refl

-- a byte that is no digit adds none
hex_cut : (t : List ℕ) (b : ℕ) → is_ascii_hexdigit b ≡ false → hex_front (t ++ b ∷ []) ≡ hex_front t
hex_cut [] b e = pick_hex (is_ascii_hexdigit b) b [] e
hex_cut (c ∷ t) b e = cut_go c (is_ascii_hexdigit c) (hex_front (t ++ b ∷ [])) (hex_front t) (hex_cut t b e)

gt_of : (n m : ℕ) → nat_lt n m ≡ true → n < m
gt_of n m e = grind arith

le_of : (n m : ℕ) → nat_lt n m ≡ false → m ≤ n
le_of n m e = grind arith

below : (n m : ℕ) → n < m → nat_lt n m ≡ true
below n m e = grind arith

above : (n m : ℕ) → m ≤ n → nat_lt n m ≡ false
above n m e = grind arith

pos_of : (n : ℕ) → (n == 0) ≡ false → 0 < n
pos_of n e = grind arith

and_parts : (x y : Bool) → (x && y) ≡ true → (x ≡ true) × (y ≡ true)
and_parts true true e = (refl, refl)
and_parts true false e = cc
and_parts false y e = cc

nat_le_of : (n m : ℕ) → nat_le n m ≡ true → n ≤ m
nat_le_of n m e = grind arith

in_range : (a z b : ℕ) → is_in_range a z b ≡ true → (a ≤ b) × (b ≤ z)
in_range a z b e = let both = and_parts (nat_le a b) (nat_le b z) e in (nat_le_of a b both.0, nat_le_of b z both.1)

any_of : (x y z : Bool) → (x || y) || z ≡ true → (x ≡ true) ⊎ ((y ≡ true) ⊎ (z ≡ true))
any_of true y z e = inl refl
any_of false true z e = inr (inl refl)
any_of false false true e = inr (inr refl)
any_of false false false e = cc

small_digit : (b : ℕ) → 48 ≤ b → b ≤ 57 → digit_value b < 16
small_digit b lo hi = rw (above b 48 lo, below b 58 (omega arith)) (omega arith)

small_upper : (b : ℕ) → 65 ≤ b → b ≤ 70 → digit_value b < 16
small_upper b lo hi = rw (above b 48 (omega arith), above b 58 (omega arith), above b 65 lo, below b 91 (omega arith)) (omega arith)

small_lower : (b : ℕ) → 97 ≤ b → b ≤ 102 → digit_value b < 16
small_lower b lo hi =
    rw (above b 48 (omega arith), above b 58 (omega arith), above b 65 (omega arith), above b 91 (omega arith), above b 97 lo, below b 123 (omega arith)) (omega arith)

by_range : (b : ℕ) → (is_in_range 48 57 b ≡ true) ⊎ ((is_in_range 65 70 b ≡ true) ⊎ (is_in_range 97 102 b ≡ true)) → digit_value b < 16
by_range b (inl x) = let r = in_range 48 57 b x in small_digit b r.0 r.1
by_range b (inr (inl x)) = let r = in_range 65 70 b x in small_upper b r.0 r.1
by_range b (inr (inr x)) = let r = in_range 97 102 b x in small_lower b r.0 r.1

digit_small : (b : ℕ) → is_ascii_hexdigit b ≡ true → digit_value b < 16
digit_small b e = by_range b (any_of (is_in_range 48 57 b) (is_in_range 65 70 b) (is_in_range 97 102 b) e)

digits_of : (c : ℕ) (t : List ℕ) (h : Bool) → is_ascii_hexdigit c ≡ h → ((hex_front t ≡ t) → AllDigits 16 t) → (if h then c ∷ hex_front t else []) ≡ c ∷ t → AllDigits 16 (c ∷ t)
digits_of c t true is ih e = (digit_small c is, ih (tail_same c (hex_front t) t e))
  where
    tail_same : (c : ℕ) (x y : List ℕ) → c ∷ x ≡ c ∷ y → x ≡ y
    tail_same c x y e = cc
digits_of c t false is ih e = let bad : [] ≡ c ∷ t = e in cc

all_digits : (t : List ℕ) → hex_front t ≡ t → AllDigits 16 t
all_digits [] e = tt
all_digits (c ∷ t) e = digits_of c t (is_ascii_hexdigit c) refl (all_digits t) e

seven : (t : List ℕ) → hex_front t ≡ t → length t ≤ 7 → digits_value 16 t < 16 ^ 7
seven t all few =
    let a = digits_value-lt 16 t (all_digits t all) in
    let b : 16 ^ length t ≤ 16 ^ 7 = pow-le-pow_right {n = 16} (omega arith) few in omega arith

lt_eight : (n : ℕ) (c : Bool) → nat_lt n 8 ≡ c → ((if c then Digits (n + 1) else Wrong) ≡ Wrong → ⊥) → n < 8
lt_eight n true e right = gt_of n 8 e
lt_eight n false e right = absurd (right refl)

pick : (h : Bool) (x y : SizeSpot) → h ≡ true → (if h then x else y) ≡ x
pick true x y e = refl
pick false x y e = let bad : false ≡ true = e in cc

step_digit : (n b : ℕ) → is_ascii_hexdigit b ≡ true → size_step (Digits n) b ≡ (if nat_lt n 8 then Digits (n + 1) else Wrong)
step_digit n b e =
    pick (is_ascii_hexdigit b) (if nat_lt n 8 then Digits (n + 1) else Wrong) (if n == 0 then Wrong else (if b == 59 then Extension 0 else (if b == 13 then Cr else Wrong))) e

step_eight : (n : ℕ) → n < 8 → (if nat_lt n 8 then Digits (n + 1) else Wrong) ≡ Digits (n + 1)
step_eight n lt = pick (nat_lt n 8) (Digits (n + 1)) Wrong (below n 8 lt)

-- one more digit
one_digit : (n b value : ℕ) (last : List ℕ) → Digits n ≡ size_run (Digits 0) last → is_ascii_hexdigit b ≡ true → value ≡ digits_value 16 (hex_front last)
    → (size_step (Digits n) b ≡ Wrong → ⊥) → min (min (value * 16) (2 ^ 64 - 1) + digit_value b) (2 ^ 64 - 1) ≡ digits_value 16 (hex_front (last ++ b ∷ []))
one_digit n b value last at hex is right =
    let all = hex_all 0 last n (sym at) in
    let lt : n < 8 = lt_eight n (nat_lt n 8) refl (λ w. right (step_digit n b hex ∙ w)) in
    let next : size_run (Digits 0) (last ++ b ∷ []) ≡ Digits (n + 1) =
    size_run-append (Digits 0) last (b ∷ []) ∙ ap (λ s. size_step s b) (sym at) ∙ step_digit n b hex ∙ step_eight n lt in
    let more = hex_all 0 (last ++ b ∷ []) (n + 1) next in
    let few : length last ≤ 7 = let c : n ≡ 0 + length last = all.1 in omega arith in
    let small = seven last all.0 few in
    let digit = digit_small b hex in
    let v : value ≡ digits_value 16 last = is ∙ ap (digits_value 16) all.0 in
    let sum : digits_value 16 (hex_front (last ++ b ∷ [])) ≡ digits_value 16 last * 16 + digit_value b =
    ap (digits_value 16) more.0 ∙ digits_value_push 16 last b in
    fits value (digits_value 16 last) (digit_value b) (digits_value 16 (hex_front (last ++ b ∷ []))) v small digit sum
  where
    fits : (value v d w : ℕ) → value ≡ v → v < 16 ^ 7 → d < 16 → w ≡ v * 16 + d → min (min (value * 16) (2 ^ 64 - 1) + d) (2 ^ 64 - 1) ≡ w
    fits value v d w e small digit sum = omega arith

by_hex : (n b value : ℕ) (last : List ℕ) (h : Bool) → is_ascii_hexdigit b ≡ h → Digits n ≡ size_run (Digits 0) last → value ≡ digits_value 16 (hex_front last)
    → (size_step (Digits n) b ≡ Wrong → ⊥)
    → (if h then min (min (value * 16) (2 ^ 64 - 1) + digit_value b) (2 ^ 64 - 1) else value) ≡ digits_value 16 (hex_front (last ++ b ∷ []))
by_hex n b value last true hex at is right = one_digit n b value last at hex is right
by_hex n b value last false hex at is right = is ∙ ap (digits_value 16) (sym (hex_cut last b hex))

value_more : (s : SizeSpot) (b value : ℕ) (last : List ℕ) → s ≡ size_run (Digits 0) last → IsInLine s → value ≡ digits_value 16 (hex_front last)
    → (size_step s b ≡ Wrong → ⊥) → value_step s value b ≡ digits_value 16 (hex_front (last ++ b ∷ []))
value_more (Digits n) b value last at is v right = by_hex n b value last (is_ascii_hexdigit b) refl at v right
value_more (Extension n) b value last at is v right =
    v ∙ ap (digits_value 16) (sym (hex_stops 0 last (b ∷ []) (subst (λ (s : SizeSpot). IsPast s) at tt)))
value_more Cr b value last at is v right =
    v ∙ ap (digits_value 16) (sym (hex_stops 0 last (b ∷ []) (subst (λ (s : SizeSpot). IsPast s) at tt)))
value_more Whole b value last at is v right = absurd is
value_more Wrong b value last at is v right = absurd is

-- ---- a whole line

front_of_line : (xs ys p r : List ℕ) → xs ++ ys ≡ p ++ r → length p ≤ length xs → xs ≡ p ++ take (length xs - length p) r
front_of_line xs ys p r e le = sym (take-append_seam xs ys) ∙ ap (take (length xs)) e ∙ take_past (length xs) p r le

nothing_behind : (last : List ℕ) (b : ℕ) (l : ChunkLine) (rest : List ℕ) → (size_run (Digits 0) last ≡ Whole → ⊥) → ReadsSize (last ++ b ∷ []) l rest → rest ≡ []
nothing_behind last b l [] part x = refl
nothing_behind last b l (c ∷ rest) part x =
    let p = print_chunk_line l in
    let size : length (last ++ b ∷ []) ≡ length (p ++ (c ∷ rest)) = ap length x.1.1 in
    let left : length (last ++ b ∷ []) ≡ length last + 1 = length-append last (b ∷ []) in
    let right : length (p ++ (c ∷ rest)) ≡ length p + suc (length rest) = length-append p (c ∷ rest) in
    let le : length p ≤ length last = omega arith in
    let cut = front_of_line last (b ∷ []) p (c ∷ rest) x.1.1 le in
    absurd (part (right_is_whole last l (take (length last - length p) (c ∷ rest)) (x.0, (x.1.0, cut))))

whole_line : (last : List ℕ) (b : ℕ) → (size_run (Digits 0) last ≡ Whole → ⊥) → size_run (Digits 0) (last ++ b ∷ []) ≡ Whole
    → (l : ChunkLine) × ReadsSize (last ++ b ∷ []) l []
whole_line last b part whole =
    let r = whole_is_right (last ++ b ∷ []) whole in
    (r.0, subst (λ (t : List ℕ). ReadsSize (last ++ b ∷ []) r.0 t) (nothing_behind last b r.0 r.1 part r.2) r.2)

hex_step : (c : ℕ) (h : Bool) (x y : List ℕ) → h ≡ true → x ≡ y → (if h then c ∷ x else []) ≡ c ∷ y
hex_step c true x y e f = ap (λ v. c ∷ v) f
hex_step c false x y e f = let bad : false ≡ true = e in cc

hex_run : (ds : List ℕ) (c : ℕ) (t : List ℕ) → AllPass is_ascii_hexdigit ds → is_ascii_hexdigit c ≡ false → hex_front (ds ++ c ∷ t) ≡ ds
hex_run [] c t all e = pick_hex (is_ascii_hexdigit c) c (hex_front t) e
hex_run (d ∷ ds) c t all e =
    hex_step d (is_ascii_hexdigit d) (hex_front (ds ++ c ∷ t)) ds (All-head (λ v. is_ascii_hexdigit v ≡ true) d ds all)
    (hex_run ds c t (All-tail (λ v. is_ascii_hexdigit v ≡ true) d ds all) e)

digits_end : (ds : List ℕ) (e : Option (List ℕ)) (rest : List ℕ) → AllPass is_ascii_hexdigit ds → hex_front (ds ++ (print_extension e ++ 13 ∷ 10 ∷ rest)) ≡ ds
digits_end ds None rest all = hex_run ds 13 (10 ∷ rest) all refl
digits_end ds (Some x) rest all = hex_run ds 59 (x ++ 13 ∷ 10 ∷ rest) all refl

line_digits : (text : List ℕ) (l : ChunkLine) (rest : List ℕ) → ReadsSize text l rest → hex_front text ≡ l.digits
line_digits text l rest x =
    ap hex_front (x.1.1 ∙ line_text l rest x.0.no_pad) ∙ digits_end l.digits l.extension rest x.1.0.digits.2

line_size : (text : List ℕ) (l : ChunkLine) (rest : List ℕ) (value : ℕ) → ReadsSize text l rest → value ≡ digits_value 16 (hex_front text) → chunk_size l ≡ value
line_size text l rest value x is = ap (digits_value 16) (sym (line_digits text l rest x)) ∙ sym is

-- ---- one more chunk

pub chunks_push : (most : ℕ) (text : List ℕ) (cs : List (List ℕ)) (last c r : List ℕ) → ReadsChunks most text cs last → ReadsChunk last c r → length c ≤ room_left most cs
    → ReadsChunks most text (cs ++ c ∷ []) r
chunks_push most text [] last c r x y fits = (fits, (r, subst (λ (t : List ℕ). ReadsChunk t c r) (sym x) y, refl))
chunks_push most text (d ∷ cs) last c r x y fits = (x.0, (x.1.0, x.1.1, chunks_push (most - length d) x.1.0 cs last c r x.1.2 y fits))

room_push : (most : ℕ) (cs : List (List ℕ)) (c : List ℕ) → room_left most (cs ++ c ∷ []) ≡ room_left most cs - length c
room_push most [] c = refl
room_push most (d ∷ cs) c = room_push (most - length d) cs c

joined : (cs : List (List ℕ)) (c : List ℕ) → flat_map (λ c. c) cs ++ c ≡ flat_map (λ c. c) (cs ++ c ∷ []) ++ []
joined cs c =
    sym (append-nil (flat_map (λ c. c) (cs ++ c ∷ [])) ∙ flat_map-append (λ (c : List ℕ). c) cs (c ∷ []) ∙ ap (λ (x : List ℕ). flat_map (λ c. c) cs ++ x) (append-nil c))

-- ---- what a byte does

-- what the text so far is, where a byte leads on, ends the body or is refused
abbrev pub IsStepped : ℕ → List ℕ → List ℕ → ChunkStep → Type 0
IsStepped most text content (to.On part room) = IsReading most text content part room
IsStepped most text content to.Whole = ReadsBody most chunked text content []
IsStepped most text content (to.Fault fault) = FailsInBody most chunked text fault

abbrev At : ℕ → List ℕ → List (List ℕ) → List ℕ → Type 0
At most text contents last = ReadsChunks most text contents last

no_content : (begun content : List ℕ) (cs : List (List ℕ)) → begun ≡ [] → content ≡ flat_map (λ c. c) cs ++ begun → content ≡ flat_map (λ c. c) cs
no_content begun content cs nil is = is ∙ ap (λ b. flat_map (λ c. c) cs ++ b) nil ∙ append-nil (flat_map (λ c. c) cs)

no_more : (content : List ℕ) (cs : List (List ℕ)) → content ≡ flat_map (λ c. c) cs → content ≡ flat_map (λ c. c) cs ++ []
no_more content cs is = is ∙ sym (append-nil (flat_map (λ c. c) cs))

no_trailers : IsInTrailers place.Start 0 0 []
no_trailers = record {
  lines = [];
  line = [];
  reads = (All-nil IsField, refl);
  open_line = nothing;
  place_is = refl;
  fields_are = refl;
  count_is = refl;
  short = omega arith;
}

some_chunk : (most : ℕ) (text content last : List ℕ) (cs : List (List ℕ)) (l : ChunkLine) (value room : ℕ) (b : Bool) → nat_lt room value ≡ b → 0 < value
    → At most text cs last → content ≡ flat_map (λ c. c) cs → room ≡ room_left most cs → ReadsSize last l [] → chunk_size l ≡ value
    → IsStepped most text content (if b then to.Fault BodyTooLong else to.On (Data value) (room - value))
some_chunk most text content last cs l value room true test some at is left reads size =
    let over = gt_of room value test in
    let more : room_left most cs < chunk_size l = omega arith in
    (cs, last, at, inr (inl ((l, [], reads, more), refl)))
some_chunk most text content last cs l value room false test some at is left reads size =
    let fits = le_of room value test in
    let size_is : chunk_size l ≡ 0 + value = size ∙ zero_plus value in record {
      contents = cs;
      last = last;
      begun = [];
      chunks = at;
      part_is = record { line = l; reads = reads; size_is = size_is; some = omega arith; fits = omega arith };
      content_is = no_more content cs is;
    }
  where
    zero_plus : (n : ℕ) → n ≡ 0 + n
    zero_plus n = omega arith

chunk_line : (most : ℕ) (text content last : List ℕ) (cs : List (List ℕ)) (l : ChunkLine) (value room : ℕ) (z : Bool) → (value == 0) ≡ z
    → At most text cs last → content ≡ flat_map (λ c. c) cs → room ≡ room_left most cs → ReadsSize last l [] → chunk_size l ≡ value
    → IsStepped most text content (if z then to.On (Trailers place.Start 0 0) room else (if nat_lt room value then to.Fault BodyTooLong else to.On (Data value) (room - value)))
chunk_line most text content last cs l value room true test at is left reads size =
    let nil : chunk_size l ≡ 0 = size ∙ eqb-true value 0 test in record {
      contents = cs;
      last = last;
      begun = [];
      chunks = at;
      part_is = (refl, ([], (l, reads, nil), no_trailers));
      content_is = no_more content cs is;
    }
chunk_line most text content last cs l value room false test at is left reads size =
    let some = pos_of value test in some_chunk most text content last cs l value room (nat_lt room value) refl some at is left reads size

-- in the line before a chunk
in_line : (most : ℕ) (text content last : List ℕ) (cs : List (List ℕ)) (s : SizeSpot) (value room b : ℕ) (next : SizeSpot) → next ≡ size_step s b
    → At most text cs last → content ≡ flat_map (λ c. c) cs → room ≡ room_left most cs → s ≡ size_run (Digits 0) last → IsInLine s → value ≡ digits_value 16 (hex_front last)
    → IsStepped most (text ++ b ∷ []) content (size_turn next (value_step s value b) room)
in_line most text content last cs s value room b next to_next at is left spot inside v = turned next to_next
  where
    run_next : size_run (Digits 0) (last ++ b ∷ []) ≡ size_step s b
    run_next = size_run-append (Digits 0) last (b ∷ []) ∙ ap (λ x. size_step x b) (sym spot)

    more_at : At most (text ++ b ∷ []) cs (last ++ b ∷ [])
    more_at = chunks_more most text (b ∷ []) cs last at

    right : (n : SizeSpot) → n ≡ size_step s b → (n ≡ Wrong → ⊥) → value_step s value b ≡ digits_value 16 (hex_front (last ++ b ∷ []))
    right n e other = value_more s b value last spot inside v (λ w. other (e ∙ w))

    on : (n : SizeSpot) → n ≡ size_step s b → IsInLine n → (n ≡ Wrong → ⊥) → IsReading most (text ++ b ∷ []) content (Size n (value_step s value b)) room
    on n e inn other = record {
      contents = cs;
      last = last ++ b ∷ [];
      begun = [];
      chunks = more_at;
      part_is = (refl, left, e ∙ sym run_next, inn, right n e other);
      content_is = no_more content cs is;
    }

    not_whole : (x : SizeSpot) → IsInLine x → x ≡ Whole → ⊥
    not_whole x inn e = subst (λ (y : SizeSpot). IsInLine y) e inn

    turned : (n : SizeSpot) → n ≡ size_step s b → IsStepped most (text ++ b ∷ []) content (size_turn n (value_step s value b) room)
    turned (Digits n) e = on (Digits n) e tt (λ w. cc)
    turned (Extension n) e = on (Extension n) e tt (λ w. cc)
    turned Cr e = on Cr e tt (λ w. cc)
    turned Whole e =
        let line = whole_line last b (λ w. not_whole s inside (spot ∙ w)) (run_next ∙ sym e) in
        let size = line_size (last ++ b ∷ []) line.0 [] (value_step s value b) line.1 (right Whole e (λ w. cc)) in
        chunk_line most (text ++ b ∷ []) content (last ++ b ∷ []) cs line.0 (value_step s value b) room (value_step s value b == 0) refl more_at is left line.1 size
    turned Wrong e = (cs, last ++ b ∷ [], more_at, inl (wrong_is_never (last ++ b ∷ []) (run_next ∙ sym e), refl))

-- ---- after a chunk

same_end : (begun after : List ℕ) (b : ℕ) → (begun ++ after) ++ b ∷ [] ≡ begun ++ (after ++ b ∷ [])
same_end begun after b = append_assoc begun after (b ∷ [])

bad_end : (most : ℕ) (text content last begun after : List ℕ) (cs : List (List ℕ)) (all room b : ℕ) → At most text cs last → all ≡ room_left most cs
    → IsInChunk all room 0 last begun after → ((more rest : List ℕ) → ¬ ((after ++ b ∷ []) ++ more ≡ crlf_bytes ++ rest)) → FailsInBody most chunked (text ++ b ∷ []) BadChunk
bad_end most text content last begun after cs all room b at left x never =
    let size : chunk_size x.line ≡ length begun = x.size_is ∙ plus_zero (length begun) in (
      cs,
      last ++ b ∷ [],
      chunks_more most text (b ∷ []) cs last at,
      inr (inr (inl (
        record {
          line = x.line;
          content = begun;
          after = after ++ b ∷ [];
          reads = subst (λ (t : List ℕ). ReadsSize (last ++ b ∷ []) x.line t) (same_end begun after b) (size_more last (b ∷ []) x.line (begun ++ after) x.reads);
          some = omega (arith, x.some);
          size_is = size;
          fits = omega (arith, x.fits);
          never = never;
        },
        refl,
      ))),
    )
  where
    plus_zero : (n : ℕ) → n + 0 ≡ n
    plus_zero n = omega arith

head_same : (a b : ℕ) (x y : List ℕ) → a ∷ x ≡ b ∷ y → a ≡ b
head_same a b x y e = cc

second_same : (a b c d : ℕ) (x y : List ℕ) → a ∷ c ∷ x ≡ b ∷ d ∷ y → c ≡ d
second_same a b c d x y e = cc

cr_byte : (most : ℕ) (text content : List ℕ) (room b : ℕ) (t : Bool) → (b == 13) ≡ t → IsReading most text content (Data 0) room
    → IsStepped most (text ++ b ∷ []) content (if t then to.On Lf room else to.Fault BadChunk)
cr_byte most text content room b true test x =
    let is : b ≡ 13 = eqb-true b 13 test in
    let p : IsInChunk (room_left most x.contents) room 0 x.last x.begun [] = x.part_is in
    let moved : ReadsSize (x.last ++ b ∷ []) p.line (x.begun ++ b ∷ []) =
    subst (λ (t : List ℕ). ReadsSize (x.last ++ b ∷ []) p.line t) (same_end x.begun [] b) (size_more x.last (b ∷ []) p.line (x.begun ++ []) p.reads) in record {
      contents = x.contents;
      last = x.last ++ b ∷ [];
      begun = x.begun;
      chunks = chunks_more most text (b ∷ []) x.contents x.last x.chunks;
      part_is = record {
        line = p.line;
        reads = subst (λ (v : ℕ). ReadsSize (x.last ++ b ∷ []) p.line (x.begun ++ v ∷ [])) is moved;
        size_is = p.size_is;
        some = p.some;
        fits = p.fits;
      };
      content_is = x.content_is;
    }
cr_byte most text content room b false test x =
    bad_end most text content x.last x.begun [] x.contents (room_left most x.contents) room b x.chunks refl x.part_is
    (λ more rest e. other b test (head_same b 13 more (10 ∷ rest) e))
  where
    other : (b : ℕ) → (b == 13) ≡ false → b ≡ 13 → ⊥
    other b test is = let bad : false ≡ true = sym test ∙ ap (λ v. v == 13) is in cc

lf_byte : (most : ℕ) (text content : List ℕ) (room b : ℕ) (t : Bool) → (b == 10) ≡ t → IsReading most text content Lf room
    → IsStepped most (text ++ b ∷ []) content (if t then to.On (Size (Digits 0) 0) room else to.Fault BadChunk)
lf_byte most text content room b true test x =
    let is : b ≡ 10 = eqb-true b 10 test in
    let p : IsInChunk (room_left most x.contents) room 0 x.last x.begun (13 ∷ []) = x.part_is in
    let moved : ReadsSize (x.last ++ b ∷ []) p.line (x.begun ++ 13 ∷ b ∷ []) =
    subst (λ (t : List ℕ). ReadsSize (x.last ++ b ∷ []) p.line t) (same_end x.begun (13 ∷ []) b) (size_more x.last (b ∷ []) p.line (x.begun ++ 13 ∷ []) p.reads) in
    let size : chunk_size p.line ≡ length x.begun = let e : chunk_size p.line ≡ length x.begun + 0 = p.size_is in omega arith in
    let sum : room + chunk_size p.line ≡ room_left most x.contents = p.fits in
    let some : 0 < chunk_size p.line = p.some in
    let chunk : ReadsChunk (x.last ++ b ∷ []) x.begun [] = record {
      line = p.line;
      behind = x.begun ++ 13 ∷ b ∷ [];
      reads = moved;
      some = omega arith;
      size_is = size;
      whole = ap (λ v. x.begun ++ 13 ∷ v ∷ []) is;
    } in
    let left : room ≡ room_left most (x.contents ++ x.begun ∷ []) = less room (chunk_size p.line) (room_left most x.contents) (length x.begun) sum size ∙ sym (room_push most x.contents x.begun) in record {
      contents = x.contents ++ x.begun ∷ [];
      last = [];
      begun = [];
      chunks = chunks_push most (text ++ b ∷ []) x.contents (x.last ++ b ∷ []) x.begun [] (chunks_more most text (b ∷ []) x.contents x.last x.chunks) chunk (omega arith);
      part_is = (refl, left, refl, tt, refl);
      content_is = x.content_is ∙ joined x.contents x.begun;
    }
  where
    less : (r c a n : ℕ) → r + c ≡ a → c ≡ n → r ≡ a - n
    less r c a n e f = omega arith
lf_byte most text content room b false test x =
    bad_end most text content x.last x.begun (13 ∷ []) x.contents (room_left most x.contents) room b x.chunks refl x.part_is
    (λ more rest e. other b test (second_same 13 13 b 10 more rest e))
  where
    other : (b : ℕ) → (b == 10) ≡ false → b ≡ 10 → ⊥
    other b test is = let bad : false ≡ true = sym test ∙ ap (λ v. v == 10) is in cc

-- ---- in the trailers

in_trailers : (most : ℕ) (text content last trailers : List ℕ) (cs : List (List ℕ)) (room b : ℕ) (s : ChunkStep) → At most text cs last → content ≡ flat_map (λ c. c) cs
    → ReadsLast last trailers → IsTurned room (trailers ++ b ∷ []) s → IsStepped most (text ++ b ∷ []) content s
in_trailers most text content last trailers cs room b (to.On (Size s v) left) at is end x = absurd x
in_trailers most text content last trailers cs room b (to.On (Data n) left) at is end x = absurd x
in_trailers most text content last trailers cs room b (to.On Lf left) at is end x = absurd x
in_trailers most text content last trailers cs room b (to.On (Trailers here fields count) left) at is end x = record {
  contents = cs;
  last = last ++ b ∷ [];
  begun = [];
  chunks = chunks_more most text (b ∷ []) cs last at;
  part_is = (refl, (trailers ++ b ∷ [], last_more last (b ∷ []) trailers end, x.1));
  content_is = no_more content cs is;
}
in_trailers most text content last trailers cs room b to.Whole at is end x =
    (cs, last ++ b ∷ [], trailers ++ b ∷ [], chunks_more most text (b ∷ []) cs last at, last_more last (b ∷ []) trailers end, x, is)
in_trailers most text content last trailers cs room b (to.Fault f) at is end x =
    (cs, last ++ b ∷ [], chunks_more most text (b ∷ []) cs last at, inr (inr (inr (trailers ++ b ∷ [], last_more last (b ∷ []) trailers end, x))))

-- ---- a byte, and the bytes of a chunk

pub byte_reads : (most : ℕ) (text content : List ℕ) (part : Part) (room b : ℕ) → data_left part ≡ 0 → IsReading most text content part room
    → IsStepped most (text ++ b ∷ []) content (chunk_step part room b)
byte_reads most text content (Size s value) room b none x =
    let p = x.part_is in
    in_line most text content x.last x.contents s value room b (size_step s b) refl x.chunks (no_content x.begun content x.contents p.0 x.content_is) p.1 p.2 p.3 p.4
byte_reads most text content (Data zero) room b none x = cr_byte most text content room b (b == 13) refl x
byte_reads most text content (Data (suc n)) room b none x = absurd (omega arith)
byte_reads most text content Lf room b none x = lf_byte most text content room b (b == 10) refl x
byte_reads most text content (Trailers here fields count) room b none x =
    let p = x.part_is in
    in_trailers most text content x.last p.1.0 x.contents room b (trailer_turn (scan.step here b) fields count room (b == 10)) x.chunks
    (no_content x.begun content x.contents p.0 x.content_is) p.1.1 (trailer_byte b here fields count room p.1.0 p.1.2)

pub data_reads : (most : ℕ) (text content more : List ℕ) (left count room : ℕ) → length more ≡ count → count ≤ left → IsReading most text content (Data left) room
    → IsReading most (text ++ more) (content ++ more) (Data (left - count)) room
data_reads most text content more left count room size le x =
    let p : IsInChunk (room_left most x.contents) room left x.last x.begun [] = x.part_is in
    let moved : ReadsSize (x.last ++ more) p.line ((x.begun ++ more) ++ []) =
    subst (λ (t : List ℕ). ReadsSize (x.last ++ more) p.line t) (regroup x.begun more) (size_more x.last more p.line (x.begun ++ []) p.reads) in
    let size_is : chunk_size p.line ≡ length (x.begun ++ more) + (left - count) =
    let a : chunk_size p.line ≡ length x.begun + left = p.size_is in
    let b : length (x.begun ++ more) ≡ length x.begun + length more = length-append x.begun more in omega arith in record {
      contents = x.contents;
      last = x.last ++ more;
      begun = x.begun ++ more;
      chunks = chunks_more most text more x.contents x.last x.chunks;
      part_is = record { line = p.line; reads = moved; size_is = size_is; some = p.some; fits = p.fits };
      content_is = ap (λ t. t ++ more) x.content_is ∙ append_assoc (flat_map (λ c. c) x.contents) x.begun more;
    }
  where
    regroup : (a b : List ℕ) → (a ++ []) ++ b ≡ (a ++ b) ++ []
    regroup a b = ap (λ v. v ++ b) (append-nil a) ∙ sym (append-nil (a ++ b))
