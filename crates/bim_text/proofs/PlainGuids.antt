-- The characters of an identifier stand for themselves.
use Rattle.std.proofs.Common.{◌≡◌, ℕ, ◌<◌, ◌≤◌, List, [], ◌∷◌, length, true, refl, arith}
use Rattle.std.specs.List.{list_all}
use Rattle.std.proofs.lemmas.Bool.{and_parts, lt-ltb, le-leb, eq-eqb, ne_eqb}
use Rattle.std.proofs.lemmas.Grind.{common_steps}
use Rattle.bim_model.specs.Guids.{is_guid_char}
use Rattle.bim_text.specs.TextSpellings.{is_plain, text_of_spelling}
use Rattle.bim_text.specs.Says.{is_guid}
use Rattle.bim_text.proofs.AllRows.{text_plain}

below : (b : ℕ) → is_guid_char b ≡ true → b < 128
below b h = grind (arith, common_steps, h)

above : (b : ℕ) → is_guid_char b ≡ true → 32 ≤ b
above b h = grind (arith, common_steps, h)

no_apostrophe : (b : ℕ) → is_guid_char b ≡ true → b ≡ 39 → ⊥
no_apostrophe b h e = grind (arith, common_steps, h, e)

no_backslash : (b : ℕ) → is_guid_char b ≡ true → b ≡ 92 → ⊥
no_backslash b h e = grind (arith, common_steps, h, e)

plain : (b : ℕ) → is_guid_char b ≡ true → is_plain b ≡ true
plain b h = rw (le-leb 32 b (above b h), lt-ltb b 128 (below b h), ne_eqb b 39 (no_apostrophe b h), ne_eqb b 92 (no_backslash b h)) refl

all_plain : (bs : List ℕ) → list_all is_guid_char bs ≡ true → list_all is_plain bs ≡ true
all_plain [] h = refl
all_plain (b ∷ bs) h = let p = and_parts (is_guid_char b) (list_all is_guid_char bs) h in rw (plain b p.0) (all_plain bs p.1)

-- bytes of the alphabet of identifiers are the text that they stand for
pub guid_said : (bs : List ℕ) → list_all is_guid_char bs ≡ true → text_of_spelling bs ≡ bs
guid_said bs h = text_plain bs (all_plain bs h)

-- 22 of them stand for an identifier
pub guid_is : (bs : List ℕ) → length bs ≡ 22 → list_all is_guid_char bs ≡ true → is_guid (text_of_spelling bs) ≡ true
guid_is bs n h = rw (guid_said bs h, eq-eqb (length bs) 22 n, h) refl

pub ruleset guids = (guid_said, guid_is)
