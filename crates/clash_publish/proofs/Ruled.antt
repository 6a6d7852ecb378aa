-- The distance of a rule by its number.
use Rattle.std.proofs.Common.{◌≡◌, ℕ, zero, suc, ◌<◌, ◌≤◌, List, [], ◌∷◌, length, get_or, None, refl, ap, arith}
use Rattle.bim_model.specs.declared.rules.Rule.{Rule}
use Rattle.bim_model.specs.declared.rules.RuleKind.{RuleKind}
use Rattle.bim_model.specs.Rules.{distance_if}
use Rattle.clash_publish.specs.Listed.{distance_at}

pub distance_past : (rules : List Rule) (n : ℕ) → length rules ≤ n → distance_at rules n ≡ None
distance_past [] n h = refl
distance_past (r ∷ rules) zero h = absurd (omega arith)
distance_past (r ∷ rules) (suc n) h = distance_past rules n (omega arith)

pub distance_here : (rules : List Rule) (n : ℕ) (d : Rule) (kind : RuleKind) → n < length rules → (get_or rules n d).kind ≡ kind → distance_at rules n ≡ distance_if kind
distance_here [] n d kind h e = absurd (omega arith)
distance_here (r ∷ rules) zero d kind h e = ap distance_if e
distance_here (r ∷ rules) (suc n) d kind h e = distance_here rules n d kind (omega arith) e
