-- What a request is refused for if the turn that it gives is bad.
use Rattle.std.proofs.Common.{◌≡◌, ◌∙◌, Result, Ok, Err, ap, sym, subst}
use Rattle.bcf_http.specs.declared.asked.RequestFault.{RequestFault}
use Rattle.bcf_http.specs.declared.asked.Refusal.{Refusal}
use Rattle.bcf_http.specs.declared.asked.Refusal.TheVariants.{Fault}
use Rattle.bcf_http.specs.declared.asked.Action.{Action}
use Rattle.bcf_http.specs.Asked.{with_bad_turn, IsAskedAs}

module _ (asked : Result Action Refusal) (meant : Result Action RequestFault) (meant_is : IsAskedAs asked meant) where
  -- one that asks for something
  pub bad_asked : (action : Action) (told : Result Action Refusal) → asked ≡ Ok action → IsAskedAs told (with_bad_turn (Ok action)) → IsAskedAs told (with_bad_turn meant)
  bad_asked action told is by =
      subst (λ (r : Result Action RequestFault). IsAskedAs told (with_bad_turn r)) (sym (subst (λ (r : Result Action Refusal). IsAskedAs r meant) is meant_is)) by

  -- one that has another fault
  pub bad_fault : (fault told : RequestFault) → asked ≡ Err (Fault fault) → Err told ≡ with_bad_turn (Err fault) → with_bad_turn meant ≡ Err told
  bad_fault fault told is by = ap with_bad_turn (subst (λ (r : Result Action Refusal). IsAskedAs r meant) is meant_is) ∙ sym by
