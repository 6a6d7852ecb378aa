use Rattle.std.proofs.Common.{◌∙◌, true≢false, refl, sym}
use Rattle.bim_model.specs.Models.{IsInReach}
use Rattle.bim_model.proofs.Tested.{corners_more, corners_at, corners_whole}
use Rattle.bim_model.proofs.validity.are_in_reach.Goals as goal

pub returns-then-not-is_near : goal.returns-then-not-is_near
returns-then-not-is_near c = (
  λ h. absurd (true≢false (sym h)),
  λ all. sym c.if-not-is_near.true ∙ c.is_near.ensures.1 (corners_at IsInReach c.args.triangles.now c.loop-triangle.triangle-index _ c.loop-triangle-test.true all),
)

pub loop-triangle-preserved : goal.loop-triangle-preserved
loop-triangle-preserved c =
    corners_more IsInReach c.args.triangles.now c.loop-triangle.triangle-index _ c.loop-triangle-test.true c.loop-triangle.invariant
    (c.is_near.ensures.0 c.if-not-is_near.false)

pub returns : goal.returns
returns c = (
  λ h. corners_whole IsInReach c.args.triangles.now c.loop-triangle.triangle-index c.loop-triangle-test.false c.loop-triangle.invariant,
  λ all. refl,
)
