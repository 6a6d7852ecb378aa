-- Trailers byte by byte.
use Rattle.std.proofs.Common.{◌≡◌, ℕ, ◌+◌, ◌<◌, ◌≤◌, ◌==◌, min, Bool, true, false, List, [], ◌∷◌, ◌++◌, length, if◌then◌else◌, Option, Some, None, IsSome, All, refl, sym, ap, ◌∙◌, arith, append_assoc, eq-eqb, inl, inr, ◌⊎◌, subst}
use Rattle.std.specs.Prelude.{nat_lt, nat_le}
use Rattle.std.specs.List.{flat_map}
use Rattle.std.proofs.lemmas.Bool.{eqb-true, ne_eqb}
use Rattle.std.proofs.lemmas.List.{append-nil, length-append}
use Rattle.std.proofs.lemmas.List.Elements.{All-head, All-tail, All-cons, All-nil, All-append}
use Rattle.httparse.specs.Grammar.{AllPass, is_token_byte, is_value_byte, Field, IsField, LineEnd, crlf, lf, print_end, print_field, print_section, ReadsSection, HasNoSection}
use Rattle.httparse.specs.Pieces.{FieldLine, FieldLines, BeginsLine}
use Rattle.httparse.proofs.PieceLemmas.{print_field-append, token_is_no_newline, Section_skip, Section_line, FieldLine_deterministic, FieldLines-append, FieldLines_push}
use Rattle.http_frame.specs.declared.types.FrameFault.TheVariants.{HeadTooLong, BadChunk}
use Rattle.http_frame.specs.declared.field_lines.Place.{Place}
use Rattle.http_frame.specs.declared.field_lines.Place.TheVariants.{Start, Name, Value, Cr, Last, Done, Dead}
use Rattle.http_frame.specs.declared.chunks.Part.TheVariants.{Size, Data, Lf, Trailers}
use Rattle.http_frame.specs.declared.chunks.ChunkStep.{ChunkStep}
use Rattle.http_frame.specs.declared.chunks.ChunkStep.TheVariants as to
use Rattle.http_frame.specs.Heads.{before, line_at, most_head, front}
use Rattle.http_frame.specs.Bodies.{HasBadTrailer, ReadsTrailers, HasLongTrailers}
use Rattle.http_frame.specs.Scan.{step, run}
use Rattle.http_frame.specs.Chunks.{trailers_on, trailer_turn, IsInTrailers}
use Rattle.http_frame.proofs.Lines.{line_there, token_no_lf}
use Rattle.http_frame.proofs.HeadLaws.{line_of_some, some_of_line}
use Rattle.http_frame.proofs.Scanned.{run-append, not_lf, run_field, section_grouped, done_is_section}
use Rattle.http_frame.proofs.Versions.{cr_of, end_parts, no_lf, lf_here, line_exact, nothing}
use Rattle.http_frame.proofs.Seeing.{short_front}

-- ---- lines without LF

none_parts : (b : ℕ) (c : Bool) (o : Option (List ℕ)) → (b ≡ 10 → c ≡ true) → (if c then Some [] else before b o) ≡ None → (b ≡ 10 → ⊥) × (o ≡ None)
none_parts b true o f e = cc
none_parts b false None f e = (λ is. let bad : false ≡ true = f is in cc, refl)
none_parts b false (Some l) f e = cc

none_tail : (b : ℕ) (t : List ℕ) → line_at (b ∷ t) ≡ None → (b ≡ 10 → ⊥) × (line_at t ≡ None)
unfolding line_at
none_tail b t e = none_parts b (b == 10) (line_at t) (eq-eqb b 10) e

none_cons : (b : ℕ) (t : List ℕ) → (b ≡ 10 → ⊥) → line_at t ≡ None → line_at (b ∷ t) ≡ None
none_cons b t other e = no_lf b t (ne_eqb b 10 other) ∙ ap (before b) e

none_more : (line : List ℕ) (b : ℕ) → line_at line ≡ None → (b ≡ 10 → ⊥) → line_at (line ++ b ∷ []) ≡ None
none_more [] b e other = none_cons b [] other nothing
none_more (c ∷ line) b e other = let t = none_tail c line e in none_cons c (line ++ b ∷ []) t.0 (none_more line b t.1 other)

first_lf : (line z : List ℕ) → line_at line ≡ None → line_at (line ++ 10 ∷ z) ≡ Some line
first_lf [] z e = lf_here 10 z refl
first_lf (c ∷ line) z e =
    let t = none_tail c line e in no_lf c (line ++ 10 ∷ z) (ne_eqb c 10 t.0) ∙ ap (before c) (first_lf line z t.1)

some_same : (x y : List ℕ) → Some x ≡ Some y → x ≡ y
some_same x y e = cc

same_line : (line other y z : List ℕ) → line_at line ≡ None → All (λ b. (b == 10) ≡ false) other → line ++ 10 ∷ y ≡ other ++ 10 ∷ z → line ≡ other
same_line line other y z e all h = some_same line other (sym (first_lf line y e) ∙ ap line_at h ∙ line_exact other z all)

clash : (xs rest text : List ℕ) → text ≡ xs ++ 10 ∷ rest → line_at text ≡ None → ⊥
clash xs rest text e none = let l = line_there xs rest in let bad : Some l.0 ≡ None = sym l.1 ∙ ap line_at (sym e) ∙ none in cc

-- ---- field lines

abbrev body_of : Field → List ℕ
body_of f = f.name ++ 58 ∷ (f.raw ++ cr_of f.end)

regroup : (a b c z : List ℕ) → a ++ 58 ∷ (b ++ (c ++ z)) ≡ (a ++ 58 ∷ (b ++ c)) ++ z
regroup a b c z = simp append_assoc

field_text : (f : Field) (rest : List ℕ) → print_field f ++ rest ≡ body_of f ++ 10 ∷ rest
field_text f rest =
    print_field-append f rest ∙ ap (λ x. f.name ++ 58 ∷ (f.raw ++ x)) (end_parts f.end rest) ∙ regroup f.name f.raw (cr_of f.end) (10 ∷ rest)

cr_no_lf : (e : LineEnd) → All (λ b. (b == 10) ≡ false) (cr_of e)
cr_no_lf crlf = All-cons (λ v. (v == 10) ≡ false) 13 [] refl (All-nil (λ v. (v == 10) ≡ false))
cr_no_lf lf = All-nil (λ v. (v == 10) ≡ false)

value_no_lf : (xs : List ℕ) → AllPass is_value_byte xs → All (λ b. (b == 10) ≡ false) xs
value_no_lf [] all = All-nil (λ v. (v == 10) ≡ false)
value_no_lf (b ∷ xs) all =
    All-cons (λ v. (v == 10) ≡ false) b xs (ne_eqb b 10 (not_lf b (All-head (λ v. is_value_byte v ≡ true) b xs all)))
    (value_no_lf xs (All-tail (λ v. is_value_byte v ≡ true) b xs all))

field_no_lf : (f : Field) → IsField f → All (λ b. (b == 10) ≡ false) (body_of f)
field_no_lf f is =
    All-append (λ v. (v == 10) ≡ false) f.name (58 ∷ (f.raw ++ cr_of f.end)) (token_no_lf f.name is.name.1)
    (All-cons (λ v. (v == 10) ≡ false) 58 (f.raw ++ cr_of f.end) refl (All-append (λ v. (v == 10) ≡ false) f.raw (cr_of f.end) (value_no_lf f.raw is.raw) (cr_no_lf f.end)))

begins_has_lf : (text : List ℕ) → BeginsLine text → line_at text ≡ None → ⊥
begins_has_lf text (inl (e, rest, x)) none = clash (cr_of e) rest text (x ∙ end_parts e rest) none
begins_has_lf text (inr (f, rest, x)) none = clash (body_of f) rest text (x.1 ∙ field_text f rest) none

lines_head : (f : Field) (fs : List Field) (text rest : List ℕ) → FieldLines (f ∷ fs) text rest → (mid : List ℕ) × FieldLine f text mid × FieldLines fs mid rest
lines_head f fs text rest x = (
  flat_map print_field fs ++ rest,
  (All-head IsField f fs x.0, x.1 ∙ append_assoc (print_field f) (flat_map print_field fs) rest),
  (All-tail IsField f fs x.0, refl),
)

no_bad : (lines bads : List Field) (text line bad : List ℕ) → FieldLines lines text line → line_at line ≡ None → FieldLines bads text bad
    → IsSome (line_at bad) → ((more : List ℕ) → ¬ (BeginsLine (bad ++ more))) → ⊥
no_bad [] [] text line bad x none y some never =
    let l = line_of_some (line_at bad) some in
    let same : line_at line ≡ line_at bad = ap line_at (sym x.1 ∙ y.1) in
    let wrong : None ≡ Some l.0 = sym none ∙ same ∙ l.1 in cc
no_bad [] (g ∷ bads) text line bad x none y some never =
    let first = lines_head g bads text bad y in begins_has_lf text (inr (g, first.0, first.1)) (ap line_at x.1 ∙ none)
no_bad (f ∷ lines) [] text line bad x none y some never =
    let first = lines_head f lines text line x in
    never [] (subst (λ (t : List ℕ). BeginsLine t) (y.1 ∙ sym (append-nil bad)) (inr (f, first.0, first.1)))
no_bad (f ∷ lines) (g ∷ bads) text line bad x none y some never =
    let a = lines_head f lines text line x in
    let b = lines_head g bads text bad y in
    let same = FieldLine_deterministic.unique f g text a.0 b.0 a.1 b.1 in
    no_bad lines bads a.0 line bad a.2 none (subst (λ (m : List ℕ). FieldLines bads m bad) (sym same.1) b.2) some never

-- whole field lines and a line without its LF: no end has come, and no bad line
pub open_lines : (lines : List Field) (text line : List ℕ) → FieldLines lines text line → line_at line ≡ None → HasNoSection text × ¬ (HasBadTrailer text)
open_lines lines text line x none = (
  λ fields last rest reads.
      let tail = Section_skip lines fields last text line rest x reads in begins_has_lf line (Section_line (tail.0, last) line rest tail.2) none,
  λ bad. no_bad lines bad.fields text line bad.rest x none bad.lines bad.whole bad.no_line,
)

-- ---- places of such a line

abbrev IsMid : Place → Type 0
IsMid Start = ⊥
IsMid Name = Unit {0}
IsMid Value = Unit {0}
IsMid Cr = Unit {0}
IsMid Last = ⊥
IsMid Done = ⊥
IsMid Dead = Unit {0}

mid_name : (c d : Bool) → IsMid (if c then Value else (if d then Name else Dead))
mid_name true d = tt
mid_name false true = tt
mid_name false false = tt

mid_value : (c d e : Bool) → d ≡ false → IsMid (if c then Cr else (if d then Start else (if e then Value else Dead)))
mid_value true d e f = tt
mid_value false true e f = let bad : true ≡ false = f in cc
mid_value false false true f = tt
mid_value false false false f = tt

mid_cr : (d : Bool) → d ≡ false → IsMid (if d then Start else Dead)
mid_cr true f = let bad : true ≡ false = f in cc
mid_cr false f = tt

mid_step : (p : Place) (b : ℕ) → IsMid p → (b ≡ 10 → ⊥) → IsMid (step p b)
mid_step Start b m other = absurd m
mid_step Name b m other = mid_name (b == 58) (is_token_byte b)
mid_step Value b m other = mid_value (b == 13) (b == 10) (is_value_byte b) (ne_eqb b 10 other)
mid_step Cr b m other = mid_cr (b == 10) (ne_eqb b 10 other)
mid_step Last b m other = absurd m
mid_step Done b m other = absurd m
mid_step Dead b m other = tt

mid_run : (p : Place) (t : List ℕ) → IsMid p → line_at t ≡ None → IsMid (run p t)
mid_run p [] m e = m
mid_run p (b ∷ t) m e = let x = none_tail b t e in mid_run (step p b) t (mid_step p b m x.0) x.1

cr_then : (t : List ℕ) (d : Bool) → d ≡ false → line_at t ≡ None → IsMid (run (if d then Done else Dead) t)
cr_then t true f e = let bad : true ≡ false = f in cc
cr_then t false f e = mid_run Dead t tt e

by_first : (b : ℕ) (t : List ℕ) (c d k : Bool) → (c ≡ true → b ≡ 13) → d ≡ false → line_at t ≡ None
    → (b ∷ t ≡ []) ⊎ ((b ∷ t ≡ 13 ∷ []) ⊎ IsMid (run (if c then Last else (if d then Done else (if k then Name else Dead))) t))
by_first b t c true k is f e = let bad : true ≡ false = f in cc
by_first b [] true false k is f e = inr (inl (ap (λ v. v ∷ []) (is refl)))
by_first b (u ∷ t) true false k is f e = let y = none_tail u t e in inr (inr (cr_then t (u == 10) (ne_eqb u 10 y.0) y.1))
by_first b t false false true is f e = inr (inr (mid_run Name t tt e))
by_first b t false false false is f e = inr (inr (mid_run Dead t tt e))

kind_of : (line : List ℕ) → line_at line ≡ None → (line ≡ []) ⊎ ((line ≡ 13 ∷ []) ⊎ IsMid (run Start line))
kind_of [] e = inl refl
kind_of (b ∷ t) e =
    let x = none_tail b t e in by_first b t (b == 13) (b == 10) (is_token_byte b) (eqb-true b 13) (ne_eqb b 10 x.0) x.1

-- ---- the LF of a line

cr_done : (e : LineEnd) → run Start (cr_of e ++ 10 ∷ []) ≡ Done
cr_done crlf = refl
cr_done lf = refl

section_end : (lines : List Field) (text line : List ℕ) (e : LineEnd) → FieldLines lines text line → line ≡ cr_of e → ReadsSection (text ++ 10 ∷ []) lines e []
section_end lines text line e x is = (
  x.0,
  ap (λ t. t ++ 10 ∷ []) (x.1 ∙ ap (λ l. flat_map print_field lines ++ l) is)
      ∙ append_assoc (flat_map print_field lines) (cr_of e) (10 ∷ [])
      ∙ ap (λ t. flat_map print_field lines ++ t) (sym (end_parts e []))
      ∙ sym (append_assoc (flat_map print_field lines) (print_end e) []),
)

start_not_done : Start ≡ Done → ⊥
start_not_done e = cc

start_not_dead : Start ≡ Dead → ⊥
start_not_dead e = cc

done_not_dead : Done ≡ Dead → ⊥
done_not_dead e = cc

abbrev IsFieldLine : List ℕ → Type 0
IsFieldLine line = (f : Field) × IsField f × (line ++ 10 ∷ [] ≡ print_field f ++ [])

field_in : (line : List ℕ) (fs : List Field) (last : LineEnd) (rest : List ℕ) → line_at line ≡ None → run Start (line ++ 10 ∷ []) ≡ Start
    → ReadsSection (line ++ 10 ∷ 10 ∷ []) fs last rest → IsFieldLine line
field_in line [] last rest none e x =
    let same = same_line line (cr_of last) (10 ∷ []) rest none (cr_no_lf last) (x.1 ∙ end_parts last rest) in
    absurd (start_not_done (sym e ∙ ap (λ l. run Start (l ++ 10 ∷ [])) same ∙ cr_done last))
field_in line (f ∷ fs) last rest none e x =
    let is = All-head IsField f fs x.0 in
    let tail = print_section fs last ++ rest in
    let same = same_line line (body_of f) (10 ∷ []) tail none (field_no_lf f is) (x.1 ∙ section_grouped f fs last rest ∙ field_text f tail) in
    (f, is, ap (λ l. l ++ 10 ∷ []) same ∙ sym (field_text f []))

field_ends : (line : List ℕ) → line_at line ≡ None → run Start (line ++ 10 ∷ []) ≡ Start → IsFieldLine line
field_ends line none e =
    let done : run Start (line ++ 10 ∷ 10 ∷ []) ≡ Done =
    ap (run Start) (sym (append_assoc line (10 ∷ []) (10 ∷ []))) ∙ run-append Start (line ++ 10 ∷ []) (10 ∷ []) ∙ ap (λ p. run p (10 ∷ [])) e in
    let s = done_is_section (line ++ 10 ∷ 10 ∷ []) done in
    field_in line s.0 s.1 s.2 none e s.3

push_line : (lines : List Field) (text line : List ℕ) → FieldLines lines text line → (is : IsFieldLine line) → FieldLines (lines ++ is.0 ∷ []) (text ++ 10 ∷ []) []
push_line lines text line x is =
    FieldLines_push lines is.0 (text ++ 10 ∷ []) (line ++ 10 ∷ []) [] (FieldLines-append lines text line (10 ∷ []) x) (is.1, is.2)

dead_line : (line more : List ℕ) → line_at line ≡ None → run Start (line ++ 10 ∷ []) ≡ Dead → BeginsLine ((line ++ 10 ∷ []) ++ more) → ⊥
dead_line line more none dead (inl (e, rest, x)) =
    let same = same_line line (cr_of e) more rest none (cr_no_lf e) (sym (append_assoc line (10 ∷ []) more) ∙ x ∙ end_parts e rest) in
    done_not_dead (sym (cr_done e) ∙ ap (λ l. run Start (l ++ 10 ∷ [])) (sym same) ∙ dead)
dead_line line more none dead (inr (f, rest, x)) =
    let same = same_line line (body_of f) more rest none (field_no_lf f x.0) (sym (append_assoc line (10 ∷ []) more) ∙ x.1 ∙ field_text f rest) in
    start_not_dead (sym (run_field f [] x.0) ∙ ap (run Start) (field_text f []) ∙ ap (λ l. run Start (l ++ 10 ∷ [])) (sym same) ∙ dead)

-- ---- one byte

-- what the trailers so far are, where a byte leads on, ends them or is refused
abbrev pub IsTurned : ℕ → List ℕ → ChunkStep → Type 0
IsTurned room text (to.On (Size s value) left) = ⊥
IsTurned room text (to.On (Data n) left) = ⊥
IsTurned room text (to.On Lf left) = ⊥
IsTurned room text (to.On (Trailers here fields count) left) = (left ≡ room) × IsInTrailers here fields count text
IsTurned room text to.Whole = ReadsTrailers text []
IsTurned room text (to.Fault fault) = (HasBadTrailer (front text) × (fault ≡ BadChunk)) ⊎ (HasLongTrailers text × (fault ≡ HeadTooLong))

le_of : (n m : ℕ) → nat_le n m ≡ true → n ≤ m
le_of n m e = grind arith

gt_of : (n m : ℕ) → nat_le n m ≡ false → m < n
gt_of n m e = grind arith

lt_of : (n m : ℕ) → nat_lt n m ≡ true → n < m
lt_of n m e = grind arith

ge_of : (n m : ℕ) → nat_lt n m ≡ false → m ≤ n
ge_of n m e = grind arith

on_or_long : (lines : List Field) (line text : List ℕ) (here : Place) (fields count room : ℕ) (b : Bool) → nat_le 16383 count ≡ b
    → FieldLines lines text line → line_at line ≡ None → here ≡ run Start line → fields ≡ min (length lines) 65 → count + 1 ≡ length text → length text ≤ most_head
    → IsTurned room text (if b then to.Fault HeadTooLong else to.On (Trailers here fields (count + 1)) room)
on_or_long lines line text here fields count room true e x none at f c most =
    let much = le_of 16383 count e in
    let full : most_head ≤ length text = omega arith in
    let same = short_front text most in
    let opened = open_lines lines text line x none in
    inr (inl (full, subst (λ (t : List ℕ). HasNoSection t) (sym same) opened.0, λ bad. opened.1 (subst (λ (t : List ℕ). HasBadTrailer t) same bad)), refl)
on_or_long lines line text here fields count room false e x none at f c most =
    let few = gt_of 16383 count e in
    (refl, record { lines = lines; line = line; reads = x; open_line = none; place_is = at; fields_are = f; count_is = c; short = omega arith })

done_turn : (lines : List Field) (e : LineEnd) (text : List ℕ) (fields room : ℕ) (b : Bool) → nat_lt 64 fields ≡ b → ReadsSection text lines e [] → length text ≤ most_head
    → fields ≡ min (length lines) 65 → IsTurned room text (if b then to.Fault HeadTooLong else to.Whole)
done_turn lines e text fields room true test x most f =
    let over = lt_of 64 fields test in
    let size : length text ≡ length (print_section lines e) = ap length (x.1 ∙ append-nil (print_section lines e)) in
    inr (inr (lines, e, [], x, omega arith, omega arith), refl)
done_turn lines e text fields room false test x most f =
    let few = ge_of 64 fields test in
    let size : length text ≡ length (print_section lines e) = ap length (x.1 ∙ append-nil (print_section lines e)) in
    record { fields = lines; last = e; reads = x; short = omega arith; few = omega arith }

turn_open : (p : Place) (fields count room : ℕ) → (p ≡ Last) ⊎ IsMid p → trailer_turn p fields count room false ≡ trailers_on p fields count room
turn_open Start fields count room (inl e) = cc
turn_open Start fields count room (inr m) = absurd m
turn_open Name fields count room k = refl
turn_open Value fields count room k = refl
turn_open Cr fields count room k = refl
turn_open Last fields count room k = refl
turn_open Done fields count room (inl e) = cc
turn_open Done fields count room (inr m) = absurd m
turn_open Dead fields count room k = refl

not_nil : (line : List ℕ) (b : ℕ) → line ++ b ∷ [] ≡ [] → ⊥
not_nil [] b e = cc
not_nil (c ∷ line) b e = cc

kind_more : (line : List ℕ) (b : ℕ) (p : Place) → p ≡ run Start (line ++ b ∷ []) → line_at (line ++ b ∷ []) ≡ None → (p ≡ Last) ⊎ IsMid p
kind_more line b p e none = by_kind (kind_of (line ++ b ∷ []) none)
  where
    by_kind : (line ++ b ∷ [] ≡ []) ⊎ ((line ++ b ∷ [] ≡ 13 ∷ []) ⊎ IsMid (run Start (line ++ b ∷ []))) → (p ≡ Last) ⊎ IsMid p
    by_kind (inl nil) = absurd (not_nil line b nil)
    by_kind (inr (inl cr)) = inl (e ∙ ap (run Start) cr)
    by_kind (inr (inr mid)) = inr (subst (λ (q : Place). IsMid q) (sym e) mid)

by_token : (k : Bool) → is_token_byte 10 ≡ k → ((if k then Name else Dead) ≡ Start) ⊎ ((if k then Name else Dead) ≡ Dead)
by_token true e = let bad : true ≡ false = token_is_no_newline 10 e in cc
by_token false e = inr refl

mid_lf : (p : Place) → IsMid p → (step p 10 ≡ Start) ⊎ (step p 10 ≡ Dead)
mid_lf Start m = absurd m
mid_lf Name m = by_token (is_token_byte 10) refl
mid_lf Value m = inl refl
mid_lf Cr m = inl refl
mid_lf Last m = absurd m
mid_lf Done m = absurd m
mid_lf Dead m = inr refl

-- a byte other than LF
plain_byte : (b : ℕ) (here : Place) (fields count room : ℕ) (text : List ℕ) → (b ≡ 10 → ⊥) → IsInTrailers here fields count text
    → IsTurned room (text ++ b ∷ []) (trailer_turn (step here b) fields count room false)
plain_byte b here fields count room text other x =
    let line = x.line ++ b ∷ [] in
    let none = none_more x.line b x.open_line other in
    let at : step here b ≡ run Start line = ap (λ p. step p b) x.place_is ∙ sym (run-append Start x.line (b ∷ [])) in
    let size : length (text ++ b ∷ []) ≡ length text + 1 = length-append text (b ∷ []) in
    let short : length text < most_head = x.short in
    let c : count + 1 ≡ length (text ++ b ∷ []) = omega (arith, x.count_is) in
    subst (λ (s : ChunkStep). IsTurned room (text ++ b ∷ []) s) (sym (turn_open (step here b) fields count room (kind_more x.line b (step here b) at none)))
    (on_or_long x.lines line (text ++ b ∷ []) (step here b) fields count room (nat_le 16383 count) refl (FieldLines-append x.lines text x.line (b ∷ []) x.reads) none at x.fields_are c (omega arith))

-- LF
lf_turn : (p : Place) (fields count room : ℕ) (text : List ℕ) (lines : List Field) (line : List ℕ) → FieldLines lines text line → line_at line ≡ None
    → p ≡ run Start (line ++ 10 ∷ []) → (p ≡ Start) ⊎ (p ≡ Dead) → fields ≡ min (length lines) 65 → count ≡ length text → length text < most_head
    → IsTurned room (text ++ 10 ∷ []) (trailer_turn p fields count room true)
lf_turn p fields count room text lines line x none at (inl e) f c short =
    let is = field_ends line none (sym at ∙ e) in
    let size : length (text ++ 10 ∷ []) ≡ length text + 1 = length-append text (10 ∷ []) in
    let more : length (lines ++ is.0 ∷ []) ≡ length lines + 1 = length-append lines (is.0 ∷ []) in
    let count_is : count + 1 ≡ length (text ++ 10 ∷ []) = omega arith in
    let fields_are : min fields 64 + 1 ≡ min (length (lines ++ is.0 ∷ [])) 65 = omega arith in
    subst (λ (q : Place). IsTurned room (text ++ 10 ∷ []) (trailer_turn q fields count room true)) (sym e)
    (on_or_long (lines ++ is.0 ∷ []) [] (text ++ 10 ∷ []) Start (min fields 64 + 1) count room (nat_le 16383 count) refl (push_line lines text line x is) nothing refl fields_are count_is (omega arith))
lf_turn p fields count room text lines line x none at (inr e) f c short =
    let size : length (text ++ 10 ∷ []) ≡ length text + 1 = length-append text (10 ∷ []) in
    let same = short_front (text ++ 10 ∷ []) (omega arith) in
    let l = line_there line [] in
    let bad : HasBadTrailer (text ++ 10 ∷ []) = record {
      fields = lines;
      rest = line ++ 10 ∷ [];
      lines = FieldLines-append lines text line (10 ∷ []) x;
      whole = some_of_line (line_at (line ++ 10 ∷ [])) l.0 l.1;
      no_line = λ more. dead_line line more none (sym at ∙ e);
    } in
    subst (λ (q : Place). IsTurned room (text ++ 10 ∷ []) (trailer_turn q fields count room true)) (sym e)
    (inl (subst (λ (t : List ℕ). HasBadTrailer t) (sym same) bad, refl))

end_turn : (p : Place) (fields count room : ℕ) (text : List ℕ) (lines : List Field) (line : List ℕ) (end : LineEnd) → FieldLines lines text line → line ≡ cr_of end
    → p ≡ run Start (line ++ 10 ∷ []) → fields ≡ min (length lines) 65 → length text < most_head
    → IsTurned room (text ++ 10 ∷ []) (trailer_turn p fields count room true)
end_turn p fields count room text lines line end x is at f short =
    let size : length (text ++ 10 ∷ []) ≡ length text + 1 = length-append text (10 ∷ []) in
    let done : p ≡ Done = at ∙ ap (λ l. run Start (l ++ 10 ∷ [])) is ∙ cr_done end in
    subst (λ (q : Place). IsTurned room (text ++ 10 ∷ []) (trailer_turn q fields count room true)) (sym done)
    (done_turn lines end (text ++ 10 ∷ []) fields room (nat_lt 64 fields) refl (section_end lines text line end x is) (omega arith) f)

lf_byte : (here : Place) (fields count room : ℕ) (text : List ℕ) → IsInTrailers here fields count text
    → IsTurned room (text ++ 10 ∷ []) (trailer_turn (step here 10) fields count room true)
lf_byte here fields count room text x =
    by_kind (kind_of x.line x.open_line)
  where
    at : step here 10 ≡ run Start (x.line ++ 10 ∷ [])
    at = ap (λ p. step p 10) x.place_is ∙ sym (run-append Start x.line (10 ∷ []))

    by_kind : (x.line ≡ []) ⊎ ((x.line ≡ 13 ∷ []) ⊎ IsMid (run Start x.line)) → IsTurned room (text ++ 10 ∷ []) (trailer_turn (step here 10) fields count room true)
    by_kind (inl nil) = end_turn (step here 10) fields count room text x.lines x.line lf x.reads nil at x.fields_are x.short
    by_kind (inr (inl cr)) = end_turn (step here 10) fields count room text x.lines x.line crlf x.reads cr at x.fields_are x.short
    by_kind (inr (inr mid)) =
        lf_turn (step here 10) fields count room text x.lines x.line x.reads x.open_line at (mid_lf here (subst (λ (q : Place). IsMid q) (sym x.place_is) mid)) x.fields_are x.count_is x.short

by_test : (b : ℕ) (here : Place) (fields count room : ℕ) (text : List ℕ) (t : Bool) → (b == 10) ≡ t → IsInTrailers here fields count text
    → IsTurned room (text ++ b ∷ []) (trailer_turn (step here b) fields count room t)
by_test b here fields count room text true e x =
    subst (λ (v : ℕ). IsTurned room (text ++ v ∷ []) (trailer_turn (step here v) fields count room true)) (sym (eqb-true b 10 e)) (lf_byte here fields count room text x)
by_test b here fields count room text false e x = plain_byte b here fields count room text (differ b e) x
  where
    differ : (b : ℕ) → (b == 10) ≡ false → b ≡ 10 → ⊥
    differ b e is = let bad : false ≡ true = sym e ∙ eq-eqb b 10 is in cc

pub trailer_byte : (b : ℕ) (here : Place) (fields count room : ℕ) (text : List ℕ) → IsInTrailers here fields count text
    → IsTurned room (text ++ b ∷ []) (trailer_turn (step here b) fields count room (b == 10))
trailer_byte b here fields count room text x = by_test b here fields count room text (b == 10) refl x
