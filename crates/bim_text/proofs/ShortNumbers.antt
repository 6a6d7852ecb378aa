-- Short numbers are read, and cut, where they stand.
use Rattle.std.proofs.Common.{◌≡◌, ℕ, suc, ◌+◌, ◌-◌, ◌*◌, ◌^◌, ◌<◌, ◌≤◌, ◌⊎◌, inl, inr, rules, List, [], ◌∷◌, ◌++◌, length, get_or, take, drop, Bool, true, false, refl, sym, ap, subst, ◌∙◌, arith, drop-cons, Option, Some, None, Ok, option_map, append_assoc, pos, ◌-ℤ◌}
use Rattle.std.specs.Prelude.{slice_range}
use Rattle.std.proofs.lemmas.Bool.{cases_Bool, and_parts}
use Rattle.std.proofs.lemmas.Bool.Decides.{nat_tests}
use Rattle.std.proofs.lemmas.List.{append-nil, drop-drop, length-append}
use Rattle.std.proofs.Math.Seq.{drop-append_seam, take-append_seam, drop-append-add}
use Rattle.p21_lexer.specs.declared.token.TokenKind.TheVariants as kinds
use Rattle.p21_lexer.specs.inner.Kinds.{kind_of, span}
use Rattle.p21_lexer.specs.TokenSeparators.{is_blank, Skips}
use Rattle.p21_lexer.specs.Cutting.{CutsFrom}
use Rattle.p21_lexer.specs.inner.TokenSpans.{one, is_point, fraction_span, signed_span, exponent_span, number_span, with_fraction, with_exponent}
use Rattle.p21_lexer.specs.Spelling.{is_digit, is_sign, is_exponent_mark, value_after, run, IsSigned}
use Rattle.p21_lexer.proofs.Fronts.{run_over}
use Rattle.p21_lexer.proofs.Gapping.{stop_at}
use Rattle.p21_lexer.proofs.Numbers.{signed_most}
use Rattle.p21_lexer.proofs.Tokens.{kind_digit, kind_sign, first_at}
use Rattle.bim_text.specs.declared.short.Short.{Short}
use Rattle.bim_text.specs.NumberSpellings.{Sign, sign_bytes, fraction_bytes, fraction_digits, AreDigits, is_minus, significant, written}
use Rattle.bim_text.specs.inner.NumberScanning.{front}
use Rattle.bim_text.specs.Short.{SpellsShort, sign_of, EndsAt, IsShortAt, number_token}
use Rattle.bim_text.proofs.Fronts.{front_stop}
use Rattle.bim_text.proofs.Parts.{front_whole, front_digits}
use Rattle.bim_text.proofs.Significant.{significant_most, length_first}

-- What is read.

-- the bytes of a number without exponent
abbrev pub text : Bool → List ℕ → Option (List ℕ) → List ℕ
text minus w f = sign_bytes (sign_of minus) ++ (w ++ fraction_bytes f)

minus_is : (b : Bool) → is_minus (sign_of b) ≡ b
minus_is true = refl
minus_is false = refl

sign_short : (b : Bool) → length (sign_bytes (sign_of b)) ≤ 1
sign_short true = omega arith
sign_short false = omega arith

fraction_short : (f : Option (List ℕ)) → length (fraction_bytes f) ≤ length (fraction_digits f) + 1
fraction_short None = omega arith
fraction_short (Some ds) = omega arith

few_digits : (ds : List ℕ) → length ds ≤ 34 → significant ds ≤ 34
few_digits ds h = omega (arith, significant_most ds, length_first ds)

pub reads_short : (minus : Bool) (w : List ℕ) (f : Option (List ℕ)) (n places end : ℕ) → AreDigits w → 0 < length w → AreDigits (fraction_digits f) → length w ≤ 15 → length (fraction_digits f) ≤ 15
    → n ≡ value_after 0 (w ++ fraction_digits f) → places ≡ length (fraction_digits f) → SpellsShort (text minus w f) (record { negative = minus; digits = n; places = places; end = end })
reads_short minus w f n places end all some behind few less e p =
    let sum = length-append w (fraction_digits f) in
    let size = length-append (sign_bytes (sign_of minus)) (w ++ fraction_bytes f) in
    let inner = length-append w (fraction_bytes f) in
    record {
      spelling = record { sign = sign_of minus; whole = w; fraction = f; exponent = None };
      read = record {
        number = record { whole = ap (λ (l : List ℕ). sign_bytes (sign_of minus) ++ (w ++ l)) (sym (append-nil (fraction_bytes f))); digits = all; some = some; fraction = behind; exponent = tt };
        short = omega (arith, size, inner, sign_short minus, fraction_short f, few, less);
        few = few_digits (w ++ fraction_digits f) (omega (arith, sum, few, less));
        low = search rules;
        high = search rules;
      };
      value = rw (minus_is minus, e, p) refl;
    }

-- What is cut.

abbrev pub Stops : ℕ → Type 0
Stops b = (b ≡ 44) ⊎ (b ≡ 41)

no_digit : (b : ℕ) (more : List ℕ) → Stops b → run is_digit (b ∷ more) ≡ 0
no_digit b more (inl e) = rw e refl
no_digit b more (inr e) = rw e refl

no_point : (b : ℕ) (more : List ℕ) → Stops b → one is_point (b ∷ more) ≡ 0
no_point b more (inl e) = rw e refl
no_point b more (inr e) = rw e refl

no_mark : (b : ℕ) (more : List ℕ) → Stops b → one is_exponent_mark (b ∷ more) ≡ 0
no_mark b more (inl e) = rw e refl
no_mark b more (inr e) = rw e refl

no_more : (f : Option (List ℕ)) (b : ℕ) (more : List ℕ) → Stops b → run is_digit (fraction_bytes f ++ b ∷ more) ≡ 0
no_more None b more h = no_digit b more h
no_more (Some ds) b more h = refl

fraction_here : (f : Option (List ℕ)) (b : ℕ) (more : List ℕ) → AreDigits (fraction_digits f) → Stops b → fraction_span (fraction_bytes f ++ b ∷ more) ≡ length (fraction_bytes f)
unfolding fraction_span
fraction_here None b more all h = rw (no_point b more h) refl
fraction_here (Some ds) b more all h =
    let r = run_over is_digit ds (b ∷ more) all in
    let z = no_digit b more h in
    omega (arith, r, z)

exponent_none : (b : ℕ) (more : List ℕ) → Stops b → exponent_span (b ∷ more) ≡ 0
unfolding exponent_span
exponent_none b more h = rw (no_mark b more h) refl

pub number_short : (start : List ℕ) (f : Option (List ℕ)) (b : ℕ) (more : List ℕ) → IsSigned start → AreDigits (fraction_digits f) → Stops b
    → number_span (start ++ (fraction_bytes f ++ b ∷ more)) ≡ Some (length start + length (fraction_bytes f))
unfolding number_span
number_short start f b more is all stop =
    let rest : List ℕ = fraction_bytes f ++ b ∷ more in
    let bs : List ℕ = start ++ rest in
    let n : ℕ = length start in
    let none = no_more f b more stop in
    let s : signed_span bs ≡ Some n = signed_most start rest is ∙ ap (λ (x : ℕ). Some x) (omega (arith, none)) in
    let f1 : fraction_span (drop n bs) ≡ length (fraction_bytes f) = ap fraction_span (drop-append_seam start rest) ∙ fraction_here f b more all stop in
    let k : ℕ = n + fraction_span (drop n bs) in
    let e1 : k ≡ n + length (fraction_bytes f) = ap (λ (x : ℕ). n + x) f1 in
    let d2 : drop k bs ≡ b ∷ more = ap (λ (x : ℕ). drop x bs) e1 ∙ drop-append-add start rest (length (fraction_bytes f)) ∙ drop-append_seam (fraction_bytes f) (b ∷ more) in
    let x1 : exponent_span (drop k bs) ≡ 0 = ap exponent_span d2 ∙ exponent_none b more stop in
    ap (λ (o : Option ℕ). option_map (λ m. with_exponent bs (with_fraction bs m)) o) s ∙ ap (λ (x : ℕ). Some x) (omega (arith, x1, e1))

signed_text : (minus : Bool) (w : List ℕ) → AreDigits w → 0 < length w → IsSigned (sign_bytes (sign_of minus) ++ w)
signed_text true w all some = record { sign = 45 ∷ []; digits = w; whole = refl; is_sign = refl; are_digits = (all, some) }
signed_text false w all some = record { sign = []; digits = w; whole = refl; is_sign = tt; are_digits = (all, some) }

digit_blank : (b : ℕ) → is_digit b ≡ true → is_blank b ≡ false
digit_blank b h = elim (cases_Bool (is_blank b)) [ inl k ↦ grind (arith, nat_tests) | inr k ↦ k ]

digit_slash : (b : ℕ) → is_digit b ≡ true → b ≡ 47 → ⊥
digit_slash b h e = let h2 = rw e at h in cc

-- what the first byte tells
record Head (b : ℕ) : Type 0 where
  pub number : Some kinds.Number ≡ kind_of b
  pub blank : is_blank b ≡ false
  pub slash : b ≡ 47 → ⊥

digit_head : (b : ℕ) → is_digit b ≡ true → Head b
digit_head b h = record { number = sym (kind_digit b h); blank = digit_blank b h; slash = digit_slash b h }

minus_blank : (b : ℕ) → b ≡ 45 → is_blank b ≡ false
minus_blank b h = elim (cases_Bool (is_blank b)) [ inl k ↦ grind (arith, nat_tests) | inr k ↦ k ]

minus_sign : (b : ℕ) → b ≡ 45 → is_sign b ≡ true
minus_sign b h = ap is_sign h

minus_head : (b : ℕ) → b ≡ 45 → Head b
minus_head b h = record { number = sym (kind_sign b (minus_sign b h)); blank = minus_blank b h; slash = λ g. omega (arith, h, g) }

first_same : (b d : ℕ) (bs ds : List ℕ) → b ∷ bs ≡ d ∷ ds → b ≡ d
first_same b d bs ds e = cc

head_of : (minus : Bool) (w x : List ℕ) (b : ℕ) (bs : List ℕ) → AreDigits w → 0 < length w → b ∷ bs ≡ sign_bytes (sign_of minus) ++ (w ++ x) → Head b
head_of true w x b bs all some e = minus_head b (first_same b 45 bs (w ++ x) e)
head_of false [] x b bs all some e = absurd (omega (arith, some))
head_of false (d ∷ w) x b bs all some e = digit_head b (ap is_digit (first_same b d bs (w ++ x) e) ∙ (and_parts (is_digit d) _ all).0)

stands : (bs : List ℕ) (b : ℕ) (more : List ℕ) → bs ≡ b ∷ more → Head b → Skips bs bs
stands bs b more e h = record {
  pieces = [];
  passed = refl;
  stop = stop_at bs (rw (e, h.blank) refl) (λ x g. absurd (h.slash (let f : b ∷ more ≡ 47 ∷ 42 ∷ x = sym e ∙ g in cc)));
}

pub cuts_short : (bytes : List ℕ) (from end : ℕ) (minus : Bool) (w : List ℕ) (f : Option (List ℕ)) (b : ℕ) (more : List ℕ) → from < length bytes → AreDigits w → 0 < length w → AreDigits (fraction_digits f) → Stops b
    → drop from bytes ≡ text minus w f ++ b ∷ more → end ≡ from + length (text minus w f) → CutsFrom bytes from (Ok (Some (number_token from end)))
unfolding span
cuts_short bytes from end minus w f b more lt all some behind stop e size =
    let signs : List ℕ = sign_bytes (sign_of minus) in
    let rest : List ℕ = fraction_bytes f ++ b ∷ more in
    let whole : drop from bytes ≡ signs ++ (w ++ rest) = e ∙ append_assoc signs (w ++ fraction_bytes f) (b ∷ more) ∙ ap (λ (l : List ℕ). signs ++ l) (append_assoc w (fraction_bytes f) (b ∷ more)) in
    let c : drop from bytes ≡ get_or bytes from 0 ∷ drop (suc from) bytes = drop-cons bytes from 0 lt in
    let h = head_of minus w rest (get_or bytes from 0) (drop (suc from) bytes) all some (sym c ∙ whole) in
    let number : number_span (drop from bytes) ≡ Some (length (signs ++ w) + length (fraction_bytes f)) =
    ap number_span (whole ∙ sym (append_assoc signs w rest)) ∙ number_short (signs ++ w) f b more (signed_text minus w all some) behind stop in
    let l1 = length-append signs (w ++ fraction_bytes f) in
    let l2 = length-append w (fraction_bytes f) in
    let l3 = length-append signs w in
    let ends : Some end ≡ option_map (λ n. from + n) (number_span (drop from bytes)) = rw number (ap (λ (x : ℕ). Some x) (omega (arith, size, l1, l2, l3))) in
    let first = first_at bytes from end kinds.Number lt h.number ends in
    ((omega (arith, lt), stands (drop from bytes) (get_or bytes from 0) (drop (suc from) bytes) c h), first.0, first.1)

-- Where it stands.

slice_short : (bytes : List ℕ) (from end : ℕ) (t rest : List ℕ) → drop from bytes ≡ t ++ rest → end ≡ from + length t → slice_range bytes from end ≡ t
slice_short bytes from end t rest e size =
    let n : end - from ≡ length t = omega (arith, size) in
    ap (λ (x : ℕ). take x (drop from bytes)) n ∙ ap (λ (l : List ℕ). take (length t) l) e ∙ take-append_seam t rest

ends_with : (bytes : List ℕ) (at : ℕ) → EndsAt bytes at → (b : ℕ) × (drop at bytes ≡ b ∷ drop (suc at) bytes) × Stops b × (front (drop at bytes) ≡ [])
ends_with bytes at (inl h) = (get_or bytes at 0, drop-cons bytes at 0 h.0, inl h.1, front_stop bytes at h.0 (ap is_digit h.1))
ends_with bytes at (inr h) = (get_or bytes at 0, drop-cons bytes at 0 h.0, inr h.1, front_stop bytes at h.0 (ap is_digit h.1))

-- digits up to a byte that is none
record Stopped (bytes : List ℕ) (start end before value : ℕ) : Type 0 where
  pub whole : drop start bytes ≡ front (drop start bytes) ++ drop end bytes
  pub size : end ≡ start + length (front (drop start bytes))
  pub said : value ≡ value_after before (front (drop start bytes))

stopped : (bytes : List ℕ) (start end before value : ℕ) → value_after before (front (drop start bytes)) ≡ value_after value (front (drop end bytes))
    → start + length (front (drop start bytes)) ≡ end + length (front (drop end bytes)) → front (drop end bytes) ≡ [] → Stopped bytes start end before value
stopped bytes start end before value v e none =
    let size : end ≡ start + length (front (drop start bytes)) = (let z = ap length none in omega (arith, e, z)) in
    let far : start + length (front (drop start bytes)) ≡ end = omega (arith, size) in
    record {
      whole = front_whole (drop start bytes) ∙ ap (λ (l : List ℕ). front (drop start bytes) ++ l) (drop-drop (length (front (drop start bytes))) start bytes ∙ ap (λ (n : ℕ). drop n bytes) far);
      size = size;
      said = sym (v ∙ ap (λ (l : List ℕ). value_after value l) none);
    }

value_more : (n : ℕ) (a b : List ℕ) → value_after n (a ++ b) ≡ value_after (value_after n a) b
value_more n [] b = refl
value_more n (d ∷ a) b = value_more (n * 10 + (d - 48)) a b

abbrev short : Bool → ℕ → ℕ → ℕ → Short
short minus n places end = record { negative = minus; digits = n; places = places; end = end }

ends_within : (bytes : List ℕ) (at : ℕ) → EndsAt bytes at → at < length bytes
ends_within bytes at (inl h) = h.0
ends_within bytes at (inr h) = h.0

pub bare_at : (bytes : List ℕ) (from start end value : ℕ) (minus : Bool) → drop from bytes ≡ sign_bytes (sign_of minus) ++ drop start bytes → start ≡ from + length (sign_bytes (sign_of minus))
    → value_after 0 (front (drop start bytes)) ≡ value_after value (front (drop end bytes)) → start + length (front (drop start bytes)) ≡ end + length (front (drop end bytes))
    → EndsAt bytes end → (end ≡ start → ⊥) → end ≤ start + 15 → value < 10 ^ 15 → IsShortAt bytes from (short minus value 0 end)
bare_at bytes from start end value minus signs near v e ends some few small =
    let r = ends_with bytes end ends in
    let s = stopped bytes start end 0 value v e r.3 in
    let w : List ℕ = front (drop start bytes) in
    let sb : List ℕ = sign_bytes (sign_of minus) in
    let nil = append-nil w in
    let whole : drop from bytes ≡ text minus w None ++ r.0 ∷ drop (suc end) bytes =
    signs ∙ ap (λ (l : List ℕ). sb ++ l) (s.whole ∙ ap (λ (l : List ℕ). w ++ l) r.1) ∙ sym (append_assoc sb w (r.0 ∷ drop (suc end) bytes)) ∙ ap (λ (l : List ℕ). (sb ++ l) ++ r.0 ∷ drop (suc end) bytes) (sym nil) in
    let l1 = length-append sb (w ++ []) in
    let l2 = length-append w [] in
    let size : end ≡ from + length (text minus w None) = omega (arith, s.size, near, l1, l2) in
    let lt = ends_within bytes end ends in
    let any : 0 < length w = (let q = s.size in omega (arith, q, some)) in
    record {
      cuts = cuts_short bytes from end minus w None r.0 (drop (suc end) bytes) (omega (arith, lt, size)) (front_digits (drop start bytes)) any refl r.2 whole size;
      spells = subst (λ (t : List ℕ). SpellsShort t (short minus value 0 end)) (sym (slice_short bytes from end (text minus w None) (r.0 ∷ drop (suc end) bytes) whole size))
          (reads_short minus w None value 0 end (front_digits (drop start bytes)) any refl (let q = s.size in omega (arith, q, few)) (omega arith) (s.said ∙ ap (λ (l : List ℕ). value_after 0 l) (sym nil)) refl);
      ends = ends;
      digits = small;
      places = omega arith;
    }

pub pointed_at : (bytes : List ℕ) (from start mid end n value : ℕ) (minus : Bool) → drop from bytes ≡ sign_bytes (sign_of minus) ++ drop start bytes → start ≡ from + length (sign_bytes (sign_of minus))
    → value_after 0 (front (drop start bytes)) ≡ value_after n (front (drop mid bytes)) → start + length (front (drop start bytes)) ≡ mid + length (front (drop mid bytes))
    → mid < length bytes → get_or bytes mid 0 ≡ 46 → value_after n (front (drop (mid + 1) bytes)) ≡ value_after value (front (drop end bytes)) → (mid + 1) + length (front (drop (mid + 1) bytes)) ≡ end + length (front (drop end bytes))
    → EndsAt bytes end → (mid ≡ start → ⊥) → mid ≤ start + 15 → end ≤ (mid + 1) + 15 → value < 10 ^ 15 → IsShortAt bytes from (short minus value (end - (mid + 1)) end)
pointed_at bytes from start mid end n value minus signs near v e within point v2 e2 ends some few less small =
    let r = ends_with bytes end ends in
    let none : front (drop mid bytes) ≡ [] = front_stop bytes mid within (ap is_digit point) in
    let s = stopped bytes start mid 0 n v e none in
    let t = stopped bytes (mid + 1) end n value v2 e2 r.3 in
    let w : List ℕ = front (drop start bytes) in
    let ds : List ℕ = front (drop (mid + 1) bytes) in
    let sb : List ℕ = sign_bytes (sign_of minus) in
    let rest : List ℕ = r.0 ∷ drop (suc end) bytes in
    let one : mid + 1 ≡ suc mid = omega arith in
    let behind : drop mid bytes ≡ (46 ∷ ds) ++ rest =
    drop-cons bytes mid 0 within ∙ ap (λ (b : ℕ). b ∷ drop (suc mid) bytes) point ∙ ap (λ (l : List ℕ). 46 ∷ l) (ap (λ (k : ℕ). drop k bytes) (sym one) ∙ t.whole ∙ ap (λ (l : List ℕ). ds ++ l) r.1) in
    let whole : drop from bytes ≡ text minus w (Some ds) ++ rest =
    signs ∙ ap (λ (l : List ℕ). sb ++ l) (s.whole ∙ ap (λ (l : List ℕ). w ++ l) behind ∙ sym (append_assoc w (46 ∷ ds) rest)) ∙ sym (append_assoc sb (w ++ 46 ∷ ds) rest) in
    let l1 = length-append sb (w ++ 46 ∷ ds) in
    let l2 = length-append w (46 ∷ ds) in
    let q1 = s.size in
    let q2 = t.size in
    let size : end ≡ from + length (text minus w (Some ds)) = omega (arith, q1, q2, near, l1, l2) in
    let lt = ends_within bytes end ends in
    let any : 0 < length w = omega (arith, q1, some) in
    let places : end - (mid + 1) ≡ length ds = omega (arith, q2) in
    let written : value ≡ value_after 0 (w ++ ds) = t.said ∙ ap (λ (k : ℕ). value_after k ds) s.said ∙ sym (value_more 0 w ds) in
    record {
      cuts = cuts_short bytes from end minus w (Some ds) r.0 (drop (suc end) bytes) (omega (arith, lt, size)) (front_digits (drop start bytes)) any (front_digits (drop (mid + 1) bytes)) r.2 whole size;
      spells = subst (λ (x : List ℕ). SpellsShort x (short minus value (end - (mid + 1)) end)) (sym (slice_short bytes from end (text minus w (Some ds)) rest whole size))
          (reads_short minus w (Some ds) value (end - (mid + 1)) end (front_digits (drop start bytes)) any (front_digits (drop (mid + 1) bytes)) (omega (arith, q1, few)) (omega (arith, q2, less)) written places);
      ends = ends;
      digits = small;
      places = omega (arith, less);
    }
