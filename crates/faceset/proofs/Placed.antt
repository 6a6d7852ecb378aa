-- The numbers of a set, each at its place.
use Rattle.std.proofs.Common.{◌≡◌, List, length, Option, Some, None, MatchOption, option_map, option_copied, Vec, Global, Bor, ◌∙◌, ap}
use Rattle.std.specs.Option.{IsSomeAnd}
use Rattle.std.specs.Vec.{vec_len}
use Rattle.p21_values.specs.declared.value.Value21.{Value21}

shown_items : (found : Option (Vec Value21 Global)) (shown : Option (Bor (List Value21)))
    → MatchOption found (shown ≡ None) (λ x. IsSomeAnd shown (λ y. (y.now ≡ x.items) × (length y.now ≡ vec_len x))) → option_copied shown ≡ option_map (λ x. x.items) found
shown_items None shown h = ap option_copied h
shown_items (Some x) None h = absurd h
shown_items (Some x) (Some y) h = ap Some h.0

-- what a slice of them shows
pub shown_numbers : (found : Option (Vec Value21 Global)) (shown : Option (Bor (List Value21))) (numbers : Option (List Value21)) → option_map (λ x. x.items) found ≡ numbers
    → MatchOption found (shown ≡ None) (λ x. IsSomeAnd shown (λ y. (y.now ≡ x.items) × (length y.now ≡ vec_len x))) → option_copied shown ≡ numbers
shown_numbers found shown numbers are shows = shown_items found shown shows ∙ are
