use Rattle.std.proofs.Common.{◌↔◌, ◌∷◌, [], ◌∙◌, Bool, true≢false, IsTrue, All, sym, subst}
use Rattle.bim_model.specs.Boxes.{corners_of}
use Rattle.bim_model.specs.Models.{IsInReach}
use Rattle.bim_model.proofs.Tested.{three_tested, two_failed}
use Rattle.bim_model.proofs.validity.is_near.Goals.{then-is_in_reach, else-is_in_reach}
use Rattle.bim_model.proofs.validity.is_near.Goals as goal

pub returns-then-is_in_reach-2 : goal.returns-then-is_in_reach-2
returns-then-is_in_reach-2 c = elim c.if-is_in_reach.branch [
  | then-is_in_reach w ↦ three_tested IsInReach c.args.triangle c.is_in_reach-then-is_in_reach-2.result (c.is_in_reach.ensures.0 w.if-is_in_reach.true)
      (w.is_in_reach-then-is_in_reach.ensures.0 (sym w.value-is ∙ c.if-is_in_reach-2.true)) c.is_in_reach-then-is_in_reach-2.ensures
  | else-is_in_reach w ↦ absurd (true≢false (sym c.if-is_in_reach-2.true ∙ w.value-is ∙ w.if-is_in_reach.false))
]

pub returns-else-is_in_reach-2 : goal.returns-else-is_in_reach-2
returns-else-is_in_reach-2 c =
    subst (λ (b : Bool). IsTrue b ↔ All IsInReach (corners_of (c.args.triangle ∷ []))) (sym c.if-is_in_reach-2.false)
    (two_failed IsInReach c.args.triangle
    (λ a b. elim c.if-is_in_reach.branch [
      | then-is_in_reach w ↦ absurd (true≢false (sym (w.is_in_reach-then-is_in_reach.ensures.1 b) ∙ sym w.value-is ∙ c.if-is_in_reach-2.false))
      | else-is_in_reach w ↦ absurd (true≢false (sym (c.is_in_reach.ensures.1 a) ∙ w.if-is_in_reach.false))
    ]))
