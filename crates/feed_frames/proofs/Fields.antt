-- The formats of single fields.
use Rattle.std.proofs.Common.{◌≡◌, ℕ, ℤ, pos, negsuc, ◌^◌, ◌<◌, Bool, true, false, List, [], ◌∷◌, ◌++◌, length, Option, Some, None, refl, sym, ap, subst, ◌∙◌, append_assoc, arith}
use Rattle.std.specs.Prelude.{IfSome, FitsSigned}
use Rattle.std.specs.List.{flat_map}
use Rattle.std.specs.Int.{Width, w32, w64, byte_len, from_be_bytes, to_be_bytes, cast_signed, cast_unsigned}
use Rattle.std.specs.Str.{is_utf8}
use borrow.Author.Gap.{read_sfits}
use Rattle.std.proofs.lemmas.Int.{of_z-to_z, to_z-of_z}
use Rattle.std.proofs.lemmas.List.Elements.{All-from_recursion, recursion_from_All}
use Rattle.std.proofs.lemmas.Nat.{be_bytes_4, be_bytes_8, from_be_bytes-to_be_bytes_4, from_be_bytes-to_be_bytes_8}
use Rattle.std.proofs.lemmas.Option.{same_Some}
use Rattle.std.proofs.lemmas.Str.{IsUtf8-from_is_utf8, is_utf8-from_IsUtf8}
use Rattle.feed_frames.specs.FieldBytes.{long_bytes, short_bytes, signed_bytes, truth_bytes, text_bytes, optional_bytes, counted_bytes}
use Rattle.feed_frames.specs.SpelledEntries.{IsLong, IsShort, IsSigned, FitsText, FitsList}
use Rattle.feed_frames.specs.inner.Readers.{Reader, option_then, nothing_at, cut_at, made_at, items_at, kind_at, no_kind}
use Rattle.feed_frames.specs.inner.FieldReaders.{long_at, short_at, signed_at, sized_at, text_at, counted_at, truth_at, optional_at}
use Rattle.feed_frames.proofs.Formats.{IsBytes, IsBytes-front, Takes, Takes-then, then_some, IsFormat, nothing, cut, made, into_again, checked, good_as, spelled_as, items_take, items_again, no_kinds, with_kind, kinds_format}

-- ---- numbers

record IsWide (w : Width) (limit : ℕ) : Type 0 where
  pub len : (n : ℕ) → length (to_be_bytes w n) ≡ byte_len w
  pub back : (bytes : List ℕ) → length bytes ≡ byte_len w → IsBytes bytes → to_be_bytes w (from_be_bytes w bytes) ≡ bytes
  pub again : (n : ℕ) → n < limit → from_be_bytes w (to_be_bytes w n) ≡ n
  pub below : (bytes : List ℕ) → IsBytes bytes → from_be_bytes w bytes < limit

wide32 : IsWide w32 (2 ^ 32)
wide32 = record {
  len = λ n. refl;
  back = λ bytes len fits. be_bytes_4 bytes _ len fits refl;
  again = λ n lt. from_be_bytes-to_be_bytes_4 n lt;
  below = λ bytes fits. omega (arith, fits 0, fits 1, fits 2, fits 3);
}

wide64 : IsWide w64 (2 ^ 64)
wide64 = record {
  len = λ n. refl;
  back = λ bytes len fits. be_bytes_8 bytes _ len fits refl;
  again = λ n lt. from_be_bytes-to_be_bytes_8 n lt;
  below = λ bytes fits. omega (arith, fits 0, fits 1, fits 2, fits 3, fits 4, fits 5, fits 6, fits 7);
}

number_takes : (w : Width) (limit : ℕ) → IsWide w limit → (bytes : List ℕ) (n : ℕ) (rest : List ℕ) → IsBytes bytes → made_at (λ front. from_be_bytes w front) (cut_at (byte_len w)) bytes ≡ Some (n, rest) → Takes bytes (to_be_bytes w n) rest × (n < limit)
number_takes w limit wide bytes n rest fits e =
    let a = then_some (cut_at (byte_len w) bytes) (λ x. Some (from_be_bytes w x.0, x.1)) (n, rest) e in
    let t = (cut (byte_len w)).takes bytes a.0.0 a.0.1 fits a.1 in
    let front : IsBytes a.0.0 = IsBytes-front a.0.0 a.0.1 (subst (λ (l : List ℕ). IsBytes l) t.0.parts fits) in
    let back : to_be_bytes w (from_be_bytes w a.0.0) ≡ a.0.0 = wide.back a.0.0 t.1 front in
    let took : Takes bytes (to_be_bytes w (from_be_bytes w a.0.0)) a.0.1 =
    subst (λ (l : List ℕ). Takes bytes l a.0.1) (sym back) t.0
    in
    subst (λ (p : ℕ × List ℕ). Takes bytes (to_be_bytes w p.0) p.1 × (p.0 < limit))
    (same_Some (from_be_bytes w a.0.0, a.0.1) (n, rest) a.2)
    (took, wide.below a.0.0 front)

number_again : (w : Width) (limit : ℕ) → IsWide w limit → (n : ℕ) (rest : List ℕ) → n < limit → made_at (λ front. from_be_bytes w front) (cut_at (byte_len w)) (to_be_bytes w n ++ rest) ≡ Some (n, rest)
number_again w limit wide n rest lt =
    into_again (cut (byte_len w)) (λ front. from_be_bytes w front) (to_be_bytes w n) rest (wide.len n)
    ∙ ap (λ (m : ℕ). Some (m, rest)) (wide.again n lt)

pub long : IsFormat ℕ long_at long_bytes IsLong
unfolding long_at long_bytes
long = record { takes = number_takes w64 (2 ^ 64) wide64; again = number_again w64 (2 ^ 64) wide64 }

pub short : IsFormat ℕ short_at short_bytes IsShort
unfolding short_at short_bytes
short = record { takes = number_takes w32 (2 ^ 32) wide32; again = number_again w32 (2 ^ 32) wide32 }

-- the bits of a number with a sign
bits_fit : (z : ℤ) → FitsSigned w32 z → cast_unsigned w32 z < 2 ^ 32
bits_fit (pos n) fits = omega (arith, fits.sfits)
bits_fit (negsuc n) fits = omega (arith, fits.sfits)

pub signed : IsFormat ℤ signed_at signed_bytes IsSigned
unfolding signed_at signed_bytes short_bytes
signed =
    made short (λ n. cast_signed w32 n) (λ z. cast_unsigned w32 z) (λ n lt. of_z-to_z w32 n lt)
    (λ n lt. read_sfits w32 n) (λ z fits. to_z-of_z w32 z fits) (λ z fits. bits_fit z fits)

-- ---- truth values

-- its byte, behind which nothing stands
abbrev truth_kind : Bool → ℕ
truth_kind false = 0
truth_kind true = 1

truth_reads : (b : Bool) (rest : List ℕ) → Unit {0} → kind_at 0 (made_at (λ _. false) nothing_at) (kind_at 1 (made_at (λ _. true) nothing_at) no_kind) (truth_kind b) rest ≡ Some (b, rest)
truth_reads false rest good = refl
truth_reads true rest good = refl

truth_spelled : (b : Bool) → truth_kind b ∷ [] ≡ truth_bytes b
unfolding truth_bytes
truth_spelled false = refl
truth_spelled true = refl

pub truth : IsFormat Bool truth_at truth_bytes (λ _. Unit {0})
unfolding truth_at
truth =
    spelled_as
    (kinds_format {kind = truth_kind} {fields = λ _. []} {good = λ _. Unit {0}}
    (with_kind 0 (λ _. false) nothing (λ _. refl) (λ _. refl) (λ _ p. p)
    (with_kind 1 (λ _. true) nothing (λ _. refl) (λ _. refl) (λ _ p. p) no_kinds))
    truth_reads)
    truth_bytes truth_spelled

-- ---- texts

sized_takes : (bytes x rest : List ℕ) → IsBytes bytes → sized_at bytes ≡ Some (x, rest) → Takes bytes (text_bytes x) rest × IsLong (length x)
unfolding text_bytes
sized_takes bytes x rest fits e =
    let a = then_some (long_at bytes) (λ n. cut_at n.0 n.1) (x, rest) e in
    let first = long.takes bytes a.0.0 a.0.1 fits a.1 in
    let second = (cut a.0.0).takes a.0.1 x rest first.0.rest_fits a.2 in
    let both = Takes-then bytes (long_bytes a.0.0) a.0.1 x rest first.0 second.0 in (
      subst (λ (n : ℕ). Takes bytes (long_bytes n ++ x) rest) (sym second.1) both,
      subst (λ (n : ℕ). IsLong n) (sym second.1) first.1,
    )

sized_again : (x rest : List ℕ) → IsLong (length x) → sized_at (text_bytes x ++ rest) ≡ Some (x, rest)
unfolding text_bytes
sized_again x rest fits =
    ap sized_at (append_assoc (long_bytes (length x)) x rest)
    ∙ ap (λ o. option_then o (λ n. cut_at n.0 n.1)) (long.again (length x) (x ++ rest) fits)
    ∙ (cut (length x)).again x rest refl

sized : IsFormat (List ℕ) sized_at text_bytes (λ x. IsLong (length x))
sized = record { takes = sized_takes; again = sized_again }

pub text : IsFormat (List ℕ) text_at text_bytes FitsText
unfolding text_at
text =
    good_as (checked sized is_utf8) FitsText (λ x p. (p.0, IsUtf8-from_is_utf8 x p.1))
    (λ x p. (p.0, is_utf8-from_IsUtf8 x p.1))

-- ---- values that may be missing

-- its byte, and what stands behind it
abbrev optional_kind : {A : Type 0} → Option A → ℕ
optional_kind None = 0
optional_kind (Some x) = 1

abbrev optional_fields : {A : Type 0} → (A → List ℕ) → Option A → List ℕ
optional_fields s None = []
optional_fields s (Some x) = s x

optional_reads : {A : Type 0} {r : Reader A} {s : A → List ℕ} {g : A → Type 0} → IsFormat A r s g → (o : Option A) (rest : List ℕ) → IfSome o g → kind_at 0 (made_at (λ _. None) nothing_at) (kind_at 1 (made_at (λ x. Some x) r) no_kind) (optional_kind o) (optional_fields s o ++ rest) ≡ Some (o, rest)
optional_reads F None rest good = refl
optional_reads F (Some x) rest good = into_again F (λ x. Some x) x rest good

optional_spelled : {A : Type 0} (s : A → List ℕ) (o : Option A) → optional_kind o ∷ optional_fields s o ≡ optional_bytes s o
unfolding optional_bytes
optional_spelled s None = refl
optional_spelled s (Some x) = refl

pub optional : {A : Type 0} {r : Reader A} {s : A → List ℕ} {g : A → Type 0} → IsFormat A r s g → IsFormat (Option A) (optional_at r) (optional_bytes s) (λ o. IfSome o g)
unfolding optional_at
optional {A} {r} {s} {g} F =
    spelled_as
    (kinds_format {kind = λ o. optional_kind o} {fields = λ o. optional_fields s o} {good = λ o. IfSome o g}
    (with_kind 0 (λ _. None) nothing (λ _. refl) (λ _. refl) (λ _ p. p)
    (with_kind 1 (λ x. Some x) F (λ _. refl) (λ _. refl) (λ _ p. p) no_kinds))
    (optional_reads F))
    (optional_bytes s) (optional_spelled s)

-- ---- lists

counted_takes : {A : Type 0} {r : Reader A} {s : A → List ℕ} {g : A → Type 0} → IsFormat A r s g → (bytes : List ℕ) (xs : List A) (rest : List ℕ) → IsBytes bytes → counted_at r bytes ≡ Some (xs, rest) → Takes bytes (counted_bytes s xs) rest × FitsList g xs
unfolding counted_at counted_bytes
counted_takes {A} {r} {s} {g} F bytes xs rest fits e =
    let a = then_some (long_at bytes) (λ n. items_at r n.0 n.1) (xs, rest) e in
    let first = long.takes bytes a.0.0 a.0.1 fits a.1 in
    let second = items_take F a.0.0 a.0.1 xs rest first.0.rest_fits a.2 in
    let both = Takes-then bytes (long_bytes a.0.0) a.0.1 (flat_map s xs) rest first.0 second.0 in (
      subst (λ (n : ℕ). Takes bytes (long_bytes n ++ flat_map s xs) rest) (sym second.1) both,
      (subst (λ (n : ℕ). IsLong n) (sym second.1) first.1, All-from_recursion g xs second.2),
    )

counted_again : {A : Type 0} {r : Reader A} {s : A → List ℕ} {g : A → Type 0} → IsFormat A r s g → (xs : List A) (rest : List ℕ) → FitsList g xs → counted_at r (counted_bytes s xs ++ rest) ≡ Some (xs, rest)
unfolding counted_at counted_bytes
counted_again {A} {r} {s} {g} F xs rest fits =
    ap (counted_at r) (append_assoc (long_bytes (length xs)) (flat_map s xs) rest)
    ∙ ap (λ o. option_then o (λ n. items_at r n.0 n.1)) (long.again (length xs) (flat_map s xs ++ rest) fits.0)
    ∙ items_again F xs rest (recursion_from_All g xs fits.1)

pub counted : {A : Type 0} {r : Reader A} {s : A → List ℕ} {g : A → Type 0} → IsFormat A r s g → IsFormat (List A) (counted_at r) (counted_bytes s) (FitsList g)
counted F = record { takes = counted_takes F; again = counted_again F }
