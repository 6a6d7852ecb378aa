use Rattle.std.proofs.Common.{◌∙◌, refl, sym}
use Rattle.bim_model.proofs.Tested.{not_rising, rising_more, rising_whole}
use Rattle.bim_model.proofs.validity.are_rising.Goals as goal

pub returns-then-not-is_guid_below : goal.returns-then-not-is_guid_below
returns-then-not-is_guid_below c =
    not_rising c.args.elements.now c.loop-next.next _ _ c.is_guid_below.result c.loop-next.auto.next c.loop-next-test.true
    c.is_guid_below.ensures c.if-not-is_guid_below.true

pub loop-next-preserved : goal.loop-next-preserved
loop-next-preserved c =
    rising_more c.args.elements.now c.loop-next.next _ _ c.loop-next.auto.next c.loop-next-test.true
    (sym c.is_guid_below.ensures ∙ c.if-not-is_guid_below.false) c.loop-next.invariant

pub returns : goal.returns
returns c =
    (λ h. rising_whole c.args.elements.now c.loop-next.next c.loop-next-test.false c.loop-next.invariant, λ all. refl)
