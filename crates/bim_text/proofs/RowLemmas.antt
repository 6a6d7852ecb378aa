-- What rows give and how many bytes they are.
use Rattle.std.proofs.Common.{◌≡◌, ℕ, zero, suc, ◌+◌, ◌-◌, ◌*◌, ◌/◌, ◌<◌, ◌≤◌, List, [], ◌++◌, length, get_or, take, false, refl, arith, append_assoc, inl, inr}
use Rattle.std.specs.Prelude.{encode_utf8}
use Rattle.std.specs.Str.{IsUtf8, is_utf8}
use Rattle.std.proofs.lemmas.Bool.{le-leb, lt-leb, cases_Bool}
use Rattle.std.proofs.lemmas.Nat.{div-add-mod'}
use Rattle.std.proofs.lemmas.Str.{IsUtf8-from_is_utf8, is_utf8-from_IsUtf8}
use Rattle.std.proofs.lemmas.List.{append-nil}
use Rattle.bim_text.specs.TextSpellings.{groups, group, character, sequence_len, high_row}

-- groups

pub groups_step : (left width at : ℕ) (bs : List ℕ) → 0 < left → groups left width bs at ≡ encode_utf8 (character (group width bs at)) ++ groups (left - 1) width bs (at + width)
groups_step zero width at bs h = absurd (omega arith)
groups_step (suc n) width at bs h = let e : suc n - 1 ≡ n = omega arith in rw e refl

pub groups_end : (left width at : ℕ) (bs : List ℕ) → left ≡ 0 → groups left width bs at ≡ []
groups_end left width at bs e = rw e refl

pub groups_room : (left width at all : ℕ) → 0 < left → at + left * width ≤ all → at + width + (left - 1) * width ≤ all
groups_room zero width at all h k = absurd (omega arith)
groups_room (suc n) width at all h k = let e : suc n - 1 ≡ n = omega arith in rw e (omega (arith, k))

pub groups_first : (digits width : ℕ) → 0 < width → 4 + digits / width * width ≤ digits + 4
groups_first digits width h = omega (arith, div-add-mod' digits width)

pub ruleset steps = (groups_step, groups_end, groups_room, groups_first, append_assoc, append-nil)

-- sequences

pub high_whole : (bs : List ℕ) (n : ℕ) → n ≡ sequence_len (get_or bs 0 0) → n ≤ length bs → IsUtf8 (take n bs) → high_row bs ≡ record { gives = take n bs; size = n }
unfolding high_row
high_whole bs n e le h =
    let t = is_utf8-from_IsUtf8 (take n bs) h in
    let l = le-leb n (length bs) le in
    rw (← e, l, t) refl

not_utf8 : (bs : List ℕ) → (IsUtf8 bs → ⊥) → is_utf8 bs ≡ false
not_utf8 bs h = elim (cases_Bool (is_utf8 bs)) [ inl t ↦ absurd (h (IsUtf8-from_is_utf8 bs t)) | inr t ↦ t ]

pub high_cut : (bs : List ℕ) (n : ℕ) → n ≡ sequence_len (get_or bs 0 0) → n ≤ length bs → (IsUtf8 (take n bs) → ⊥) → high_row bs ≡ record { gives = encode_utf8 (get_or bs 0 0); size = 1 }
unfolding high_row
high_cut bs n e le h =
    let t = not_utf8 (take n bs) h in
    let l = le-leb n (length bs) le in
    rw (← e, l, t) refl

pub high_short : (bs : List ℕ) (n : ℕ) → n ≡ sequence_len (get_or bs 0 0) → length bs < n → high_row bs ≡ record { gives = encode_utf8 (get_or bs 0 0); size = 1 }
unfolding high_row
high_short bs n e lt =
    let l = lt-leb n (length bs) lt in
    rw (← e, l) refl

pub ruleset sequences = (high_whole, high_cut, high_short)
