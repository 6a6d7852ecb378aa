use Rattle.std.proofs.Common.{◌≡◌, [], ◌∷◌, ◌++◌, false, List, Option, ℕ, sym, subst}
use Rattle.p21_values.specs.declared.value.Value21.{Value21}
use Rattle.p21_values.proofs.Turns.{ended}
use Rattle.ifc_elements.specs.Items.{is_item}
use Rattle.ifc_instances.specs.inner.Least.{LeastOf}
use Rattle.model_build.specs.inner.Showing.{HasOther}
use Rattle.model_build.proofs.OtherItems.{leads_none, leads_more}
use Rattle.model_build.proofs.unsupported.least_other.Goals as goal

pub loop-value-init : goal.loop-value-init
loop-value-init c = leads_none c.args.exchange.now (λ i. is_item i ≡ false)

pub loop-value-preserved : goal.loop-value-preserved
loop-value-preserved c =
    subst (λ (found : Option ℕ). LeastOf (HasOther c.args.exchange.now (c.loop-value.yielded ++ c.in-Some.value ∷ [])) found) (sym c.lesser-least.ensures)
    (leads_more c.args.exchange.now (λ i. is_item i ≡ false) c.loop-value.yielded c.in-Some.value c.loop-value.least c.other_item.result c.loop-value.invariant c.other_item.ensures)

pub returns : goal.returns
returns c =
    let all = ended c.args.values.now c.loop-value.yielded (cc) _ c.loop-value.yielded_by _ c.in-None.is c.next.ensures.steps in
    subst (λ (vs : List Value21). LeastOf (HasOther c.args.exchange.now vs) c.loop-value.least) all c.loop-value.invariant
