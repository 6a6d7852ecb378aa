-- Texts that spell no identifier, and bytes that are ASCII.
use Rattle.std.proofs.Common.{◌≡◌, ◌<◌, ℕ, zero, suc, List, [], ◌∷◌, Bool, true, false, ◌&&◌, Option, Some, None, option_map, refl, arith}
use Rattle.std.specs.List.{list_all}
use Rattle.std.specs.Char.{is_ascii}
use Rattle.std.specs.Str.{IsAscii, IsUtf8}
use Rattle.std.proofs.lemmas.Str.{IsUtf8-from_ascii}
use Rattle.std.proofs.lemmas.Grind.{common_steps}
use Rattle.uuid.specs.Text.{parsed}
use Rattle.http_routes.specs.PathParameters.{number_of_bytes, identifier_in}

none_by : (o : Option (List ℕ)) → (((u : List ℕ) × (o ≡ Some u)) → ⊥) → option_map number_of_bytes o ≡ None
none_by None never = refl
none_by (Some u) never = absurd (never (u, refl))

pub none_in : (text : List ℕ) → (((u : List ℕ) × (parsed text ≡ Some u)) → ⊥) → identifier_in text ≡ None
unfolding identifier_in
none_in text never = none_by (parsed text) never

low : (b : ℕ) → is_ascii b ≡ true → b < 128
low b e = grind (arith, common_steps, e)

first : (a b : Bool) → (a && b) ≡ true → a ≡ true
first true b e = refl
first false b e = e

second : (a b : Bool) → (a && b) ≡ true → b ≡ true
second true b e = e
second false b e = absurd (grind (arith, e))

pub ascii : (bs : List ℕ) → list_all is_ascii bs ≡ true → IsAscii bs
ascii [] e i = omega arith
ascii (b ∷ bs) e zero = low b (first (is_ascii b) (list_all is_ascii bs) e)
ascii (b ∷ bs) e (suc i) = ascii bs (second (is_ascii b) (list_all is_ascii bs) e) i

pub ascii_is_text : (bs : List ℕ) → list_all is_ascii bs ≡ true → IsUtf8 bs
ascii_is_text bs e = IsUtf8-from_ascii bs (ascii bs e)
