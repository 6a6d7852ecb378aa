use Rattle.std.proofs.Common.{◌≡◌, ℕ, Bor, true, List, Option, Some, None, is_some, option_copied, refl, sym, ◌∙◌}
use Rattle.model_build.proofs.MappingsUnsupported.{not_one}
use Rattle.model_build.proofs.mapping.is_not_one.Goals as goal

bytes_there : (o : Option (Bor (List ℕ))) → true ≡ is_some o → (bytes : List ℕ) × (option_copied o ≡ Some bytes)
bytes_there None e = cc
bytes_there (Some b) e = (b.now, refl)

pub returns-then-is_some : goal.returns-then-is_some
returns-then-is_some c =
    let there = bytes_there c.number.result c.if-is_some.ensures in
    not_one c.args.value.now there.0 c.place_of.result c.is_none.result (sym c.number.ensures ∙ there.1) c.is_none.ensures c.place_of.ensures.some c.place_of.ensures.none
