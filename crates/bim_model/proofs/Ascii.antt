-- Identifiers are plain ASCII.
use Rattle.std.proofs.Common.{◌≡◌, ◌<◌, ℕ, zero, suc, List, [], ◌∷◌, Bool, true, false, ◌&&◌, refl, arith}
use Rattle.std.specs.List.{list_all}
use Rattle.std.specs.Str.{IsUtf8, IsAscii}
use Rattle.std.proofs.lemmas.Str.{IsUtf8-from_ascii}
use Rattle.std.proofs.lemmas.Grind.{common_steps}
use Rattle.bim_model.specs.Guids.{is_guid_char, IsGuid}

low : (b : ℕ) → is_guid_char b ≡ true → b < 128
low b e = grind (arith, common_steps, e)

first : (a b : Bool) → (a && b) ≡ true → a ≡ true
first true b e = refl
first false b e = e

second : (a b : Bool) → (a && b) ≡ true → b ≡ true
second true b e = e
second false b e = absurd (grind (arith, e))

all_low : (bs : List ℕ) → list_all is_guid_char bs ≡ true → IsAscii bs
all_low [] e i = omega arith
all_low (b ∷ bs) e zero = low b (first (is_guid_char b) (list_all is_guid_char bs) e)
all_low (b ∷ bs) e (suc i) = all_low bs (second (is_guid_char b) (list_all is_guid_char bs) e) i

pub guid_is_text : (bs : List ℕ) → IsGuid bs → IsUtf8 bs
guid_is_text bs guid = IsUtf8-from_ascii bs (all_low bs guid.1)
