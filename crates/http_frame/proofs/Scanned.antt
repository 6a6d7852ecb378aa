-- What a scan byte by byte tells of the field lines.
use Rattle.std.proofs.Common.{◌≡◌, ℕ, ◌<◌, ◌==◌, ◌||◌, Bool, true, false, List, [], ◌∷◌, ◌++◌, length, if◌then◌else◌, All, refl, sym, ap, ◌∙◌, arith, append_assoc, subst}
use Rattle.std.specs.Prelude.{⊤}
use Rattle.std.specs.List.{flat_map}
use Rattle.std.proofs.lemmas.List.{append-nil}
use Rattle.std.proofs.lemmas.Bool.{ne_eqb}
use Rattle.std.proofs.lemmas.Bool.{eqb-true}
use Rattle.std.proofs.lemmas.List.Elements.{All-head, All-tail, All-cons, All-nil}
use Rattle.httparse.specs.Grammar.{AllPass, is_token_byte, is_value_byte, Field, IsField, LineEnd, crlf, lf, print_end, print_field, print_section, ReadsSection}
use Rattle.httparse.proofs.PieceLemmas.{print_field-append, token_is_no_newline, colon_ends_token}
use Rattle.http_frame.specs.declared.field_lines.Place.{Place}
use Rattle.http_frame.specs.declared.field_lines.Place.TheVariants.{Start, Name, Value, Cr, Last, Done, Dead}
use Rattle.http_frame.specs.Scan.{step, run, IsOpen}

pub run-append : (p : Place) (xs ys : List ℕ) → run p (xs ++ ys) ≡ run (run p xs) ys
run-append p [] ys = refl
run-append p (b ∷ xs) ys = run-append (step p b) xs ys

-- ---- a section is read to its end

run_done : (t : List ℕ) → run Done t ≡ Done
run_done [] = refl
run_done (b ∷ t) = run_done t

ored_left : (c d : Bool) → c || d ≡ false → c ≡ false
ored_left true d e = cc
ored_left false d e = refl

ored_right : (c d : Bool) → c || d ≡ false → d ≡ false
ored_right true d e = cc
ored_right false d e = e

pick_start : (c d t : Bool) → c ≡ false → d ≡ false → t ≡ true → (if c then Last else (if d then Done else (if t then Name else Dead))) ≡ Name
pick_start true d t e f g = cc
pick_start false true t e f g = cc
pick_start false false true e f g = refl
pick_start false false false e f g = cc

pick_name : (c t : Bool) → c ≡ false → t ≡ true → (if c then Value else (if t then Name else Dead)) ≡ Name
pick_name true t e g = cc
pick_name false true e g = refl
pick_name false false e g = cc

pick_value : (c d t : Bool) → c ≡ false → d ≡ false → t ≡ true → (if c then Cr else (if d then Start else (if t then Value else Dead))) ≡ Value
pick_value true d t e f g = cc
pick_value false true t e f g = cc
pick_value false false true e f g = refl
pick_value false false false e f g = cc

start_token : (b : ℕ) → is_token_byte b ≡ true → step Start b ≡ Name
start_token b t =
    let line = token_is_no_newline b t in
    pick_start (b == 13) (b == 10) (is_token_byte b) (ored_left (b == 13) (b == 10) line) (ored_right (b == 13) (b == 10) line) t

not_colon : (b : ℕ) → is_token_byte b ≡ true → b ≡ 58 → ⊥
not_colon b t e = let bad : false ≡ true = sym colon_ends_token ∙ ap is_token_byte (sym e) ∙ t in cc

name_token : (b : ℕ) → is_token_byte b ≡ true → step Name b ≡ Name
name_token b t = pick_name (b == 58) (is_token_byte b) (ne_eqb b 58 (not_colon b t)) t

not_cr : (b : ℕ) → is_value_byte b ≡ true → b ≡ 13 → ⊥
not_cr b t e = let bad : false ≡ true = subst (λ (v : ℕ). is_value_byte v ≡ true) e t in cc

pub not_lf : (b : ℕ) → is_value_byte b ≡ true → b ≡ 10 → ⊥
not_lf b t e = let bad : false ≡ true = subst (λ (v : ℕ). is_value_byte v ≡ true) e t in cc

value_byte : (b : ℕ) → is_value_byte b ≡ true → step Value b ≡ Value
value_byte b t = pick_value (b == 13) (b == 10) (is_value_byte b) (ne_eqb b 13 (not_cr b t)) (ne_eqb b 10 (not_lf b t)) t

run_name : (a t : List ℕ) → AllPass is_token_byte a → run Name (a ++ t) ≡ run Name t
run_name [] t all = refl
run_name (b ∷ a) t all =
    ap (λ p. run p (a ++ t)) (name_token b (All-head (λ v. is_token_byte v ≡ true) b a all)) ∙ run_name a t (All-tail (λ v. is_token_byte v ≡ true) b a all)

run_value : (a t : List ℕ) → AllPass is_value_byte a → run Value (a ++ t) ≡ run Value t
run_value [] t all = refl
run_value (b ∷ a) t all =
    ap (λ p. run p (a ++ t)) (value_byte b (All-head (λ v. is_value_byte v ≡ true) b a all)) ∙ run_value a t (All-tail (λ v. is_value_byte v ≡ true) b a all)

run_name_first : (a t : List ℕ) → 0 < length a → AllPass is_token_byte a → run Start (a ++ t) ≡ run Name t
run_name_first [] t some all = absurd (omega arith)
run_name_first (b ∷ a) t some all =
    ap (λ p. run p (a ++ t)) (start_token b (All-head (λ v. is_token_byte v ≡ true) b a all)) ∙ run_name a t (All-tail (λ v. is_token_byte v ≡ true) b a all)

run_end : (e : LineEnd) (t : List ℕ) → run Value (print_end e ++ t) ≡ run Start t
run_end crlf t = refl
run_end lf t = refl

run_last : (e : LineEnd) (t : List ℕ) → run Start (print_end e ++ t) ≡ run Done t
run_last crlf t = refl
run_last lf t = refl

pub run_field : (f : Field) (t : List ℕ) → IsField f → run Start (print_field f ++ t) ≡ run Start t
run_field f t is =
    ap (run Start) (print_field-append f t) ∙ run_name_first f.name (58 ∷ (f.raw ++ (print_end f.end ++ t))) is.name.0 is.name.1
    ∙ run_value f.raw (print_end f.end ++ t) is.raw ∙ run_end f.end t

pub section_grouped : (f : Field) (fs : List Field) (last : LineEnd) (rest : List ℕ) → print_section (f ∷ fs) last ++ rest ≡ print_field f ++ (print_section fs last ++ rest)
section_grouped f fs last rest =
    ap (λ (t : List ℕ). t ++ rest) (append_assoc (print_field f) (flat_map print_field fs) (print_end last))
    ∙ append_assoc (print_field f) (flat_map print_field fs ++ print_end last) rest

run_section : (fs : List Field) (last : LineEnd) (rest : List ℕ) → All IsField fs → run Start (print_section fs last ++ rest) ≡ Done
run_section [] last rest all = run_last last rest ∙ run_done rest
run_section (f ∷ fs) last rest all =
    ap (run Start) (section_grouped f fs last rest) ∙ run_field f (print_section fs last ++ rest) (All-head IsField f fs all)
    ∙ run_section fs last rest (All-tail IsField f fs all)

pub section_is_done : (text : List ℕ) (fs : List Field) (last : LineEnd) (rest : List ℕ) → ReadsSection text fs last rest → run Start text ≡ Done
section_is_done text fs last rest x = ap (run Start) x.1 ∙ run_section fs last rest x.0

-- ---- an open place can be completed

abbrev pub IsSection : List ℕ → Type 0
IsSection t = (fs : List Field) × (last : LineEnd) × (rest : List ℕ) × ReadsSection t fs last rest

-- the bytes are a section's from this place on
abbrev From : Place → List ℕ → Type 0
From Start t = IsSection t
From Name t =
    (a : List ℕ) × (raw : List ℕ) × (end : LineEnd) × (after : List ℕ) × AllPass is_token_byte a × AllPass is_value_byte raw
    × (t ≡ a ++ 58 ∷ (raw ++ (print_end end ++ after))) × IsSection after
From Value t = (raw : List ℕ) × (end : LineEnd) × (after : List ℕ) × AllPass is_value_byte raw × (t ≡ raw ++ (print_end end ++ after)) × IsSection after
From Cr t = (after : List ℕ) × (t ≡ 10 ∷ after) × IsSection after
From Last t = (rest : List ℕ) × (t ≡ 10 ∷ rest)
From Done t = ⊤
From Dead t = ⊥

is_empty : IsSection (10 ∷ [])
is_empty = ([], lf, [], (All-nil IsField, refl))

add_field : (f : Field) (after : List ℕ) → IsField f → IsSection after → IsSection (print_field f ++ after)
add_field f after is (fs, last, rest, x) =
    (f ∷ fs, last, rest, (All-cons IsField f fs is x.0, ap (λ b. print_field f ++ b) x.1 ∙ sym (section_grouped f fs last rest)))

back_start : (b : ℕ) (t : List ℕ) (c d k : Bool) → (c ≡ true → b ≡ 13) → (d ≡ true → b ≡ 10) → (k ≡ true → is_token_byte b ≡ true)
    → From (if c then Last else (if d then Done else (if k then Name else Dead))) t → IsSection (b ∷ t)
back_start b t true d k e h f (rest, x) = ([], crlf, rest, (All-nil IsField, ap (λ v. v ∷ t) (e refl) ∙ ap (λ v. 13 ∷ v) x))
back_start b t false true k e h f x = ([], lf, t, (All-nil IsField, ap (λ v. v ∷ t) (h refl)))
back_start b t false false true e h f (a, raw, end, after, token, value, whole, sec) =
    let g : Field = record { name = b ∷ a; raw = raw; end = end } in
    let is : IsField g = record { name = (omega arith, All-cons (λ v. is_token_byte v ≡ true) b a (f refl) token); raw = value } in
    subst (λ (v : List ℕ). IsSection v) (print_field-append g after ∙ ap (λ v. b ∷ v) (sym whole)) (add_field g after is sec)
back_start b t false false false e h f x = absurd x

back_name : (b : ℕ) (t : List ℕ) (c k : Bool) → (c ≡ true → b ≡ 58) → (k ≡ true → is_token_byte b ≡ true)
    → From (if c then Value else (if k then Name else Dead)) t → From Name (b ∷ t)
back_name b t true k e f (raw, end, after, value, whole, sec) =
    ([], raw, end, after, All-nil (λ v. is_token_byte v ≡ true), value, ap (λ v. v ∷ t) (e refl) ∙ ap (λ v. 58 ∷ v) whole, sec)
back_name b t false true e f (a, raw, end, after, token, value, whole, sec) =
    (b ∷ a, raw, end, after, All-cons (λ v. is_token_byte v ≡ true) b a (f refl) token, value, ap (λ v. b ∷ v) whole, sec)
back_name b t false false e f x = absurd x

back_value : (b : ℕ) (t : List ℕ) (c d k : Bool) → (c ≡ true → b ≡ 13) → (d ≡ true → b ≡ 10) → (k ≡ true → is_value_byte b ≡ true)
    → From (if c then Cr else (if d then Start else (if k then Value else Dead))) t → From Value (b ∷ t)
back_value b t true d k e f g (after, whole, sec) =
    ([], crlf, after, All-nil (λ v. is_value_byte v ≡ true), ap (λ v. v ∷ t) (e refl) ∙ ap (λ v. 13 ∷ v) whole, sec)
back_value b t false true k e f g x = ([], lf, t, All-nil (λ v. is_value_byte v ≡ true), ap (λ v. v ∷ t) (f refl), x)
back_value b t false false true e f g (raw, end, after, value, whole, sec) =
    (b ∷ raw, end, after, All-cons (λ v. is_value_byte v ≡ true) b raw (g refl) value, ap (λ v. b ∷ v) whole, sec)
back_value b t false false false e f g x = absurd x

back_cr : (b : ℕ) (t : List ℕ) (c : Bool) → (c ≡ true → b ≡ 10) → From (if c then Start else Dead) t → From Cr (b ∷ t)
back_cr b t true e x = (t, ap (λ v. v ∷ t) (e refl), x)
back_cr b t false e x = absurd x

back_last : (b : ℕ) (t : List ℕ) (c : Bool) → (c ≡ true → b ≡ 10) → From (if c then Done else Dead) t → From Last (b ∷ t)
back_last b t true e x = (t, ap (λ v. v ∷ t) (e refl))
back_last b t false e x = absurd x

back : (p : Place) (b : ℕ) (t : List ℕ) → From (step p b) t → From p (b ∷ t)
back Start b t x = back_start b t (b == 13) (b == 10) (is_token_byte b) (eqb-true b 13) (eqb-true b 10) (λ e. e) x
back Name b t x = back_name b t (b == 58) (is_token_byte b) (eqb-true b 58) (λ e. e) x
back Value b t x = back_value b t (b == 13) (b == 10) (is_value_byte b) (eqb-true b 13) (eqb-true b 10) (λ e. e) x
back Cr b t x = back_cr b t (b == 10) (eqb-true b 10) x
back Last b t x = back_last b t (b == 10) (eqb-true b 10) x
back Done b t x = tt
back Dead b t x = x

open_from : (p : Place) (t : List ℕ) → IsOpen (run p t) → (more : List ℕ) × From p (t ++ more)
open_from Start [] o = (10 ∷ [], is_empty)
open_from Name [] o = (58 ∷ 10 ∷ 10 ∷ [], ([], [], lf, 10 ∷ [], All-nil (λ v. is_token_byte v ≡ true), All-nil (λ v. is_value_byte v ≡ true), refl, is_empty))
open_from Value [] o = (10 ∷ 10 ∷ [], ([], lf, 10 ∷ [], All-nil (λ v. is_value_byte v ≡ true), refl, is_empty))
open_from Cr [] o = (10 ∷ 10 ∷ [], (10 ∷ [], refl, is_empty))
open_from Last [] o = (10 ∷ [], ([], refl))
open_from Done [] o = absurd o
open_from Dead [] o = absurd o
open_from p (b ∷ t) o = let r = open_from (step p b) t o in (r.0, back p b (t ++ r.0) r.1)

-- at an open place no section has ended, and some bytes complete it
pub open_may : (text : List ℕ) → IsOpen (run Start text) → (more : List ℕ) × (fs : List Field) × (last : LineEnd) × (rest : List ℕ) × ReadsSection (text ++ more) fs last rest
open_may text o = let r = open_from Start text o in (r.0, r.1.0, r.1.1, r.1.2, r.1.3)

-- after the empty line the text begins with a section
pub done_is_section : (text : List ℕ) → run Start text ≡ Done → IsSection text
done_is_section text e = subst (λ (t : List ℕ). IsSection t) (append-nil text) (now Start text e)
  where
    now : (p : Place) (text : List ℕ) → run p text ≡ Done → From p (text ++ [])
    now Start [] e = cc
    now Name [] e = cc
    now Value [] e = cc
    now Cr [] e = cc
    now Last [] e = cc
    now Done [] e = tt
    now Dead [] e = cc
    now p (b ∷ text) e = back p b (text ++ []) (now (step p b) text e)

pub open_none : (text : List ℕ) (fs : List Field) (last : LineEnd) (rest : List ℕ) → IsOpen (run Start text) → ReadsSection text fs last rest → ⊥
open_none text fs last rest o x = subst (λ (p : Place). IsOpen p) (section_is_done text fs last rest x) o
