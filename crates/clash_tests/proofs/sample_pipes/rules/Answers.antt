use Rattle.std.proofs.Common.{◌≡◌, ◌++◌, ◌∷◌, [], List, length, ap, ◌∙◌, arith}
use Rattle.std.proofs.lemmas.List.Elements.{All-nil, All-cons, All-same}
use Rattle.bim_model.specs.declared.rules.Rule.{Rule}
use Rattle.bim_model.specs.Rules.{IsRule, IsRules}
use Rattle.clash_tests.proofs.sample_pipes.rules.Goals as goal

-- a list of one rule
one : (list old : List Rule) (rule : Rule) → list ≡ old ++ rule ∷ [] → old ≡ [] → IsRule rule → IsRules list
one list old rule e f is =
    let all : list ≡ rule ∷ [] = e ∙ ap (λ l. l ++ rule ∷ []) f in
    record { few = omega (arith, ap length all); each = All-same IsRule list (rule ∷ []) all (All-cons IsRule rule [] is (All-nil IsRule)) }

pub from_vec-requires : goal.from_vec-requires
from_vec-requires c = one _ c.new-list.result.items _ c.in_ok-push.ensures.items c.new-list.ensures.items (record { a = tt; b = tt; level = tt; near = omega (arith, c.requires) })
