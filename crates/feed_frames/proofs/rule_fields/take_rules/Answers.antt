use Rattle.std.proofs.Common.{List, sym, subst, arith}
use Rattle.bim_model.specs.Rules.{IsRules}
use Rattle.bim_model.specs.declared.rules.Rule.{Rule}
use Rattle.feed_frames.proofs.Kept.{rules_are}
use Rattle.feed_frames.proofs.rule_fields.take_rules.Goals as goal

pub from_vec-requires : goal.from_vec-requires
from_vec-requires c =
    subst (λ (xs : List Rule). IsRules xs) (sym c.into_vec.ensures)
    (rules_are _ _ _ c.are_bytes.ensures c.in_ok-list.ensures (omega arith))
