-- A text whose bytes are all of a class that the apostrophe is not in, right where a value stands.
use Rattle.std.proofs.Common.{◌≡◌, ℕ, zero, suc, ◌+◌, ◌-◌, ◌<◌, ◌≤◌, ◌==◌, inl, inr, Bool, true, false, ◌&&◌, List, [], ◌∷◌, ◌++◌, length, get_or, take, drop, Option, Some, option_map, refl, sym, ap, subst, ◌∙◌, arith, drop-cons, get_or-drop, slice_range, length-drop}
use Rattle.std.specs.List.{list_all}
use Rattle.std.proofs.lemmas.Bool.{cases_Bool, and_parts, eqb-true, ne_eqb}
use Rattle.std.proofs.lemmas.List.{length-take-le, length-append}
use Rattle.std.proofs.lemmas.List.Folds.{drop_split, list_all_more}
use Rattle.std.proofs.Math.Seq.{take-append_seam}
use Rattle.bim_model.specs.Guids.{is_guid_char}
use Rattle.p21_lexer.specs.declared.token.TokenKind.TheVariants as tokens
use Rattle.p21_lexer.specs.inner.Kinds.{kind_of, span}
use Rattle.p21_lexer.specs.inner.TokenSpans.{text_span}
use Rattle.p21_lexer.specs.There.{StandsThere, IsValueThere}
use Rattle.p21_lexer.proofs.RunLemmas.{behind_at}
use Rattle.p21_lexer.proofs.Stands.{stands}
use Rattle.p21_values.specs.declared.value.Value21.{Value21}
use Rattle.p21_values.specs.Lexemes.{inner}
use Rattle.p21_values.specs.Standing.{Stands}
use Rattle.p21_values.specs.Values.{words_of}
use Rattle.p21_table.specs.inner.FirstBytes.{BeginsToken}
use Rattle.p21_table.proofs.FirstBytesThere.{words_there}

-- The table of a class of bytes.

abbrev alike : Bool → Bool → Bool
alike true true = true
alike true false = false
alike false true = false
alike false false = true

alike_same : (a b : Bool) → alike a b ≡ true → a ≡ b
alike_same true true h = refl
alike_same true false h = cc
alike_same false true h = cc
alike_same false false h = refl

-- what it says of the bytes from that one on
abbrev pub tells : (ℕ → Bool) → List Bool → ℕ → Bool
tells p [] n = true
tells p (t ∷ ts) n = alike t (p n) && tells p ts (n + 1)

tells_at : (p : ℕ → Bool) (ts : List Bool) (n k : ℕ) → tells p ts n ≡ true → k < length ts → get_or ts k false ≡ p (n + k)
tells_at p [] n k h lt = absurd (omega (arith, lt))
tells_at p (t ∷ ts) n zero h lt =
    let parts = and_parts (alike t (p n)) (tells p ts (n + 1)) h in
    let same : n ≡ n + 0 = omega arith in
    alike_same t (p n) parts.0 ∙ ap p same
tells_at p (t ∷ ts) n (suc k) h lt =
    let parts = and_parts (alike t (p n)) (tells p ts (n + 1)) h in
    let same : (n + 1) + k ≡ n + suc k = omega arith in
    tells_at p ts (n + 1) k parts.1 (omega (arith, lt)) ∙ ap p same

pub byte_told : (p : ℕ → Bool) (table : List Bool) (b : ℕ) → tells p table 0 ≡ true → length table ≡ 256 → b < 256 → get_or table b false ≡ p b
byte_told p table b h n lt =
    let same : 0 + b ≡ b = omega arith in
    tells_at p table 0 b h (omega (arith, lt, n)) ∙ ap p same

-- A text of such bytes ends at the first apostrophe.

no_apostrophe : (p : ℕ → Bool) (b : ℕ) → p 39 ≡ false → p b ≡ true → (b == 39) ≡ false
no_apostrophe p b never h = elim (cases_Bool (b == 39)) [
  | inl k ↦ absurd (let g : p 39 ≡ true = subst (λ (n : ℕ). p n ≡ true) (eqb-true b 39 k) h in let f : true ≡ false = sym g ∙ never in cc)
  | inr k ↦ k
]

text_closed : (p : ℕ → Bool) (xs : List ℕ) (c : ℕ) (rest : List ℕ) → p 39 ≡ false → list_all p xs ≡ true → (c ≡ 39 → ⊥) → text_span (xs ++ 39 ∷ c ∷ rest) ≡ Some (length xs + 1)
text_closed p [] c rest never h n = rw (ne_eqb c 39 n) refl
text_closed p (x ∷ []) c rest never h n =
    let parts = and_parts (p x) (list_all p []) h in
    rw (no_apostrophe p x never parts.0, ne_eqb c 39 n) refl
text_closed p (x ∷ y ∷ xs) c rest never h n =
    let parts = and_parts (p x) (list_all p (y ∷ xs)) h in
    rw (no_apostrophe p x never parts.0) (ap (λ (o : Option ℕ). option_map (λ m. m + 1) o) (text_closed p (y ∷ xs) c rest never parts.1 n) ∙ ap (λ (m : ℕ). Some m) (omega arith))

-- The bytes between apostrophes at two places.

text_long : (bytes : List ℕ) (at end : ℕ) → end ≤ length bytes → length (slice_range bytes (at + 1) end) ≡ end - (at + 1)
text_long bytes at end le = length-take-le (end - (at + 1)) (drop (at + 1) bytes) (omega (arith, le, length-drop (at + 1) bytes))

-- none of them at first, and one more of the class
pub none_yet : (p : ℕ → Bool) (bytes : List ℕ) (from : ℕ) → list_all p (slice_range bytes from from) ≡ true
none_yet p bytes from =
    let n : from - from ≡ 0 = omega arith in
    ap (λ (k : ℕ). list_all p (take k (drop from bytes))) n

pub all_more : (p : ℕ → Bool) (bytes : List ℕ) (from end : ℕ) → from ≤ end → end < length bytes → list_all p (slice_range bytes from end) ≡ true → p (get_or bytes end 0) ≡ true
    → list_all p (slice_range bytes from (end + 1)) ≡ true
all_more p bytes from end le lt all one =
    let n : (end + 1) - from ≡ (end - from) + 1 = omega (arith, le) in
    let m : from + (end - from) ≡ end = omega (arith, le) in
    let here : get_or (drop from bytes) (end - from) 0 ≡ get_or bytes end 0 = get_or-drop from bytes (end - from) 0 ∙ ap (λ (k : ℕ). get_or bytes k 0) m in
    ap (λ (k : ℕ). list_all p (take k (drop from bytes))) n
    ∙ list_all_more p (drop from bytes) (end - from) 0 (omega (arith, le, lt, length-drop from bytes))
    ∙ ap (λ (b : Bool). b && p (get_or (drop from bytes) (end - from) 0)) all ∙ ap p here ∙ one

behind_is : (bytes : List ℕ) (at end : ℕ) → at < end → end + 1 < length bytes → get_or bytes end 0 ≡ 39
    → drop (at + 1) bytes ≡ slice_range bytes (at + 1) end ++ 39 ∷ get_or bytes (end + 1) 0 ∷ drop (suc (end + 1)) bytes
behind_is bytes at end lt le last =
    let next : suc end ≡ end + 1 = omega arith in
    let closing : drop end bytes ≡ get_or bytes end 0 ∷ drop (suc end) bytes = drop-cons bytes end 0 (omega (arith, le)) in
    let other : drop (end + 1) bytes ≡ get_or bytes (end + 1) 0 ∷ drop (suc (end + 1)) bytes = drop-cons bytes (end + 1) 0 le in
    drop_split bytes (at + 1) end (omega (arith, lt))
    ∙ ap (λ (xs : List ℕ). slice_range bytes (at + 1) end ++ xs)
    (closing ∙ ap (λ (b : ℕ). b ∷ drop (suc end) bytes) last ∙ ap (λ (xs : List ℕ). 39 ∷ xs) (ap (λ (m : ℕ). drop m bytes) next ∙ other))

take_between : (xs : List ℕ) (b : ℕ) (ys : List ℕ) → take (suc (length xs)) (xs ++ b ∷ ys) ≡ xs ++ b ∷ []
take_between [] b ys = refl
take_between (x ∷ xs) b ys = ap (λ (zs : List ℕ). x ∷ zs) (take_between xs b ys)

inner_between : (a b : ℕ) (xs : List ℕ) → inner (a ∷ (xs ++ b ∷ [])) ≡ xs
inner_between a b xs =
    let n : (length (a ∷ (xs ++ b ∷ [])) - 1) - 1 ≡ length xs = omega (arith, length-append xs (b ∷ [])) in
    ap (λ (m : ℕ). take m (xs ++ b ∷ [])) n ∙ take-append_seam xs (b ∷ [])

range_is : (bytes : List ℕ) (at end : ℕ) → at < end → end + 1 < length bytes → get_or bytes at 0 ≡ 39 → get_or bytes end 0 ≡ 39
    → slice_range bytes at (end + 1) ≡ 39 ∷ (slice_range bytes (at + 1) end ++ 39 ∷ [])
range_is bytes at end lt le first last =
    let word = slice_range bytes (at + 1) end in
    let more = get_or bytes (end + 1) 0 ∷ drop (suc (end + 1)) bytes in
    let long = text_long bytes at end (omega (arith, le)) in
    let n : (end + 1) - at ≡ suc (suc (length word)) = omega (arith, long, lt) in
    let one : suc at ≡ at + 1 = omega arith in
    let front : drop at bytes ≡ get_or bytes at 0 ∷ drop (suc at) bytes = drop-cons bytes at 0 (omega (arith, lt, le)) in
    let whole : drop at bytes ≡ 39 ∷ (word ++ 39 ∷ more) =
    front ∙ ap (λ (b : ℕ). b ∷ drop (suc at) bytes) first ∙ ap (λ (xs : List ℕ). 39 ∷ xs) (ap (λ (m : ℕ). drop m bytes) one ∙ behind_is bytes at end lt le last) in
    ap (λ (m : ℕ). take m (drop at bytes)) n ∙ ap (λ (xs : List ℕ). take (suc (suc (length word))) xs) whole ∙ ap (λ (xs : List ℕ). 39 ∷ xs) (take_between word 39 more)

-- The token that stands there.

text_stands : (p : ℕ → Bool) (bytes : List ℕ) (at end : ℕ) → p 39 ≡ false → at < end → end + 1 < length bytes → get_or bytes at 0 ≡ 39 → get_or bytes end 0 ≡ 39
    → (get_or bytes (end + 1) 0 ≡ 39 → ⊥) → list_all p (slice_range bytes (at + 1) end) ≡ true → StandsThere bytes at tokens.Words (end + 1)
unfolding span
text_stands p bytes at end never lt le first last next all =
    let word = slice_range bytes (at + 1) end in
    let long = text_long bytes at end (omega (arith, le)) in
    let s : text_span (drop (at + 1) bytes) ≡ Some (length word + 1) =
    ap text_span (behind_is bytes at end lt le last) ∙ text_closed p word (get_or bytes (end + 1) 0) (drop (suc (end + 1)) bytes) never all next in
    let n : end + 1 ≡ (at + 1) + (length word + 1) = omega (arith, long, lt) in
    let e : Some (end + 1) ≡ option_map (λ m. (at + 1) + m) (text_span (drop (at + 1) bytes)) =
    ap (λ (m : ℕ). Some m) n ∙ ap (λ (o : Option ℕ). option_map (λ m. (at + 1) + m) o) (sym s) in
    stands bytes at (end + 1) tokens.Words (omega (arith, lt)) (ap kind_of first) (e ∙ behind_at text_span bytes at) (omega (arith, le))

-- the value that stands there is the text of these bytes
pub text_there : (p : ℕ → Bool) (bytes : List ℕ) (at end : ℕ) (v : Value21) → p 39 ≡ false → at < end → end + 1 < length bytes → get_or bytes at 0 ≡ 39 → get_or bytes end 0 ≡ 39
    → (get_or bytes (end + 1) 0 ≡ 39 → ⊥) → list_all p (slice_range bytes (at + 1) end) ≡ true → Stands bytes at v → words_of v ≡ Some (slice_range bytes (at + 1) end)
text_there p bytes at end v never lt le first last next all s =
    let h : IsValueThere bytes at (end + 1) = (tokens.Words, tt, text_stands p bytes at end never lt le first last next all) in
    let begins : BeginsToken bytes at 39 = (omega (arith, lt, le), first, omega arith, (λ e. omega (arith, e))) in
    let between : inner (slice_range bytes at (end + 1)) ≡ slice_range bytes (at + 1) end =
    ap inner (range_is bytes at end lt le first last) ∙ inner_between 39 39 (slice_range bytes (at + 1) end) in
    sym (words_there bytes at 39 (end + 1) v h begins refl s) ∙ ap (λ (bs : List ℕ). Some bs) between

-- An identifier has 22 bytes.

pub guid_long : (bytes : List ℕ) (at : ℕ) → at + 25 ≤ length bytes → length (slice_range bytes (at + 1) (at + 23)) ≡ 22
guid_long bytes at le = text_long bytes at (at + 23) (omega (arith, le)) ∙ omega arith

pub guid_there : (bytes : List ℕ) (at : ℕ) (v : Value21) → at + 25 ≤ length bytes → get_or bytes at 0 ≡ 39 → get_or bytes (at + 23) 0 ≡ 39 → (get_or bytes (at + 24) 0 ≡ 39 → ⊥)
    → list_all is_guid_char (slice_range bytes (at + 1) (at + 23)) ≡ true → Stands bytes at v → words_of v ≡ Some (slice_range bytes (at + 1) (at + 23))
guid_there bytes at v le first last next all s =
    let behind : at + 24 ≡ (at + 23) + 1 = omega arith in
    text_there is_guid_char bytes at (at + 23) v refl (omega arith) (omega (arith, le)) first last (λ e. next (ap (λ (n : ℕ). get_or bytes n 0) behind ∙ e)) all s
