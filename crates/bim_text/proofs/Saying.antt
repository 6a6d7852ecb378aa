-- A text and what is decoded are gone through together.
use Rattle.std.proofs.Common.{nat_lt, ◌≡◌, ℕ, suc, ◌+◌, ◌-◌, ◌<◌, ◌==◌, ◌&&◌, List, [], ◌∷◌, ◌++◌, length, drop, take, Bool, true, false, refl, sym, ap, ◌∙◌, arith, append_assoc, length-append}
use Rattle.std.specs.Prelude.{encode_utf8}
use Rattle.std.specs.Str.{bytes_eq}
use Rattle.std.specs.List.{list_all}
use Rattle.std.proofs.lemmas.List.Folds.{list_all-append}
use Rattle.bim_model.specs.Guids.{is_guid_char}
use Rattle.std.proofs.lemmas.Bool.{ltb-false}
use Rattle.std.proofs.lemmas.Bool.Decides.{Decides-eqb, nat_tests}
use Rattle.std.proofs.lemmas.List.{length-drop}
use Rattle.std.proofs.lemmas.Slice.Eq.{bytes_eq-Decides, starts_is}
use Rattle.bim_text.specs.TextSpellings.{row_of, rows, groups, group, character}
use Rattle.bim_text.specs.Says.{is_text, ends_guid, Leaves, Lacks}
use Rattle.bim_text.proofs.RowLemmas.{groups_step}
use Rattle.bim_text.proofs.AllRows.{rows_step, rows_nil, row_fits, text_cleaned}

same_byte : (b : ℕ) → (b == b) ≡ true
same_byte b = (Decides-eqb b b).1 refl

ends_same : (piece more left : List ℕ) → bytes_eq (piece ++ more) (piece ++ left) ≡ bytes_eq more left
ends_same [] more left = refl
ends_same (b ∷ piece) more left = rw (same_byte b) (ends_same piece more left)

pub leaves_piece : (text piece left : List ℕ) → text ≡ piece ++ left → Leaves (is_text text) piece (is_text left)
unfolding is_text
leaves_piece text piece left e = record { same = λ more. rw e (ends_same piece more left) }

no_more : (text piece more : List ℕ) (b : Bool) → ((rest : List ℕ) → text ≡ piece ++ rest → ⊥) → bytes_eq (piece ++ more) text ≡ b → b ≡ false
no_more text piece more true h e = absurd (h more (sym ((bytes_eq-Decides (piece ++ more) text).0 e)))
no_more text piece more false h e = refl

pub lacks_piece : (text piece : List ℕ) → ((rest : List ℕ) → text ≡ piece ++ rest → ⊥) → Lacks (is_text text) piece
unfolding is_text
lacks_piece text piece h = record { differs = λ more. no_more text piece more (bytes_eq (piece ++ more) text) h refl }

all_of : (bs : List ℕ) → take (length bs) bs ≡ bs
all_of [] = refl
all_of (b ∷ bs) = ap (λ (l : List ℕ). b ∷ l) (all_of bs)

rest_of : (n : ℕ) (bs : List ℕ) → take (length bs - n) (drop n bs) ≡ drop n bs
rest_of n bs = rw (← length-drop n bs) (all_of (drop n bs))

pub leaves_start : (text piece : List ℕ) → bytes_eq piece (take (length piece) text) ≡ true → Leaves (is_text text) piece (is_text (take (length text - length piece) (drop (length piece) text)))
leaves_start text piece t = rw (rest_of (length piece) text) (leaves_piece text piece (drop (length piece) text) ((starts_is Decides-eqb text piece (bytes_eq piece (take (length piece) text)) refl).0 t))

pub lacks_start : (text piece : List ℕ) → bytes_eq piece (take (length piece) text) ≡ false → Lacks (is_text text) piece
lacks_start text piece f = lacks_piece text piece (λ rest e. let t = (starts_is Decides-eqb text piece (bytes_eq piece (take (length piece) text)) refl).1 rest e in cc)

pub ruleset pieces = (leaves_start, lacks_start)

-- Identifiers.

guid_here : (before : ℕ) (piece : List ℕ) → list_all is_guid_char piece ≡ true → Leaves (ends_guid before) piece (ends_guid (before + length piece))
unfolding ends_guid
guid_here before piece h = record {
  same = λ more.
      let e : before + (length piece + length more) ≡ before + length piece + length more = omega arith in
      rw (length-append piece more, list_all-append is_guid_char piece more, h, e) refl;
}

past : (a b c : ℕ) → 22 < a + b → (a + (b + c) == 22) ≡ false
past a b c h = grind (arith, nat_tests)

guid_long : (before : ℕ) (piece : List ℕ) → 22 < before + length piece → Lacks (ends_guid before) piece
unfolding ends_guid
guid_long before piece h = record { differs = λ more. rw (length-append piece more, past before (length piece) (length more) h) refl }

not_both : (b : Bool) → (b && false) ≡ false
not_both true = refl
not_both false = refl

guid_other : (before : ℕ) (piece : List ℕ) → list_all is_guid_char piece ≡ false → Lacks (ends_guid before) piece
unfolding ends_guid
guid_other before piece h = record { differs = λ more. rw (list_all-append is_guid_char piece more, h) (not_both (before + length (piece ++ more) == 22)) }

pub guid_leaves : (before now : ℕ) (piece : List ℕ) → list_all is_guid_char piece ≡ true → now ≡ before + length piece → Leaves (ends_guid before) piece (ends_guid now)
guid_leaves before now piece h e = rw e (guid_here before piece h)

pub guid_lacks_room : (before : ℕ) (piece : List ℕ) → 22 < before + length piece → Lacks (ends_guid before) piece
guid_lacks_room before piece h = guid_long before piece h

pub guid_lacks_char : (before : ℕ) (piece : List ℕ) → list_all is_guid_char piece ≡ false → Lacks (ends_guid before) piece
guid_lacks_char before piece h = guid_other before piece h

pub ruleset guids = (guid_leaves, guid_lacks_room, guid_lacks_char)

-- Nothing.

pub leaves_none : (test : List ℕ → Bool) → Leaves test [] test
leaves_none test = record { same = λ more. refl }

-- One row after others.

pub rows_some : (bs : List ℕ) (test left : List ℕ → Bool) → 0 < length bs → Leaves test (row_of bs).gives left → test (rows bs) ≡ left (rows (drop (row_of bs).size bs))
rows_some bs test left h p = ap test (rows_step bs h) ∙ p.same (rows (drop (row_of bs).size bs))

pub rows_none : (bs : List ℕ) (test : List ℕ → Bool) → 0 < length bs → Lacks test (row_of bs).gives → test (rows bs) ≡ false
rows_none bs test h p = ap test (rows_step bs h) ∙ p.differs (rows (drop (row_of bs).size bs))

pub rows_shorter : (bs : List ℕ) → 0 < length bs → length (drop (row_of bs).size bs) < length bs
rows_shorter bs h = let f = row_fits bs h in omega (arith, f.0, f.1, length-drop (row_of bs).size bs)

pub ruleset steps = (rows_shorter, text_cleaned)

-- One character after others.

joined : (n width at : ℕ) (bs more : List ℕ) → 0 < n → groups n width bs at ++ more ≡ encode_utf8 (character (group width bs at)) ++ (groups (n - 1) width bs (at + width) ++ more)
joined n width at bs more h = rw (groups_step n width at bs h) (append_assoc (encode_utf8 (character (group width bs at))) (groups (n - 1) width bs (at + width)) more)

pub group_some : (n width at : ℕ) (bs : List ℕ) (test left : List ℕ → Bool) (more : List ℕ) → 0 < n → Leaves test (encode_utf8 (character (group width bs at))) left
    → test (groups n width bs at ++ more) ≡ left (groups (n - 1) width bs (at + width) ++ more)
group_some n width at bs test left more h p = ap test (joined n width at bs more h) ∙ p.same (groups (n - 1) width bs (at + width) ++ more)

pub group_none : (n width at : ℕ) (bs : List ℕ) (test : List ℕ → Bool) (more : List ℕ) → 0 < n → Lacks test (encode_utf8 (character (group width bs at))) → test (groups n width bs at ++ more) ≡ false
group_none n width at bs test more h p = ap test (joined n width at bs more h) ∙ p.differs (groups (n - 1) width bs (at + width) ++ more)

-- Nothing is left.

pub nothing_left : (bs : List ℕ) (test : List ℕ → Bool) → nat_lt 0 (length bs) ≡ false → test (rows bs) ≡ test []
nothing_left [] test h = ap test rows_nil
nothing_left (b ∷ bs) test h = absurd (omega (arith, ltb-false 0 (length (b ∷ bs)) h))

not_zero : (n : ℕ) → false ≡ (suc n == 0)
not_zero n = grind (arith, nat_tests)

pub empty_text : (text : List ℕ) → is_text text [] ≡ (length text == 0)
unfolding is_text
empty_text [] = refl
empty_text (b ∷ text) = not_zero (length text)

zero_more : (before : ℕ) → before + 0 ≡ before
zero_more before = omega arith

true_more : (b : Bool) → (b && true) ≡ b
true_more true = refl
true_more false = refl

pub empty_guid : (before : ℕ) → ends_guid before [] ≡ (before == 22)
unfolding ends_guid
empty_guid before = rw (zero_more before) (true_more (before == 22))

pub ruleset empties = (empty_text, empty_guid)
