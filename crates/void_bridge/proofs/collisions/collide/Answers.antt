use Rattle.std.proofs.Common.{◌∙◌, sym}
use Rattle.void_bridge.specs.LoopEdges.{collide}
use Rattle.void_bridge.proofs.Alternatives.{decides, goes_on, both, not_both}
use Rattle.void_bridge.proofs.collisions.collide.Goals as goal

pub returns-then-cross : goal.returns-then-cross
unfolding collide
returns-then-cross c = decides _ _ (sym c.cross.ensures ∙ c.if-cross.true)

pub returns-then-is_inside : goal.returns-then-is_inside
unfolding collide
returns-then-is_inside c = goes_on _ _ _ (sym c.cross.ensures ∙ c.if-cross.false) (decides _ _ (sym c.is_inside.ensures ∙ c.if-is_inside.true))

pub returns-then-is_inside-2 : goal.returns-then-is_inside-2
unfolding collide
returns-then-is_inside-2 c = goes_on _ _ _ (sym c.cross.ensures ∙ c.if-cross.false) (goes_on _ _ _ (sym c.is_inside.ensures ∙ c.if-is_inside.false) (decides _ _ (sym c.is_inside-2.ensures ∙ c.if-is_inside-2.true)))

pub returns-then-is_inside-3 : goal.returns-then-is_inside-3
unfolding collide
returns-then-is_inside-3 c = goes_on _ _ _ (sym c.cross.ensures ∙ c.if-cross.false) (goes_on _ _ _ (sym c.is_inside.ensures ∙ c.if-is_inside.false) (goes_on _ _ _ (sym c.is_inside-2.ensures ∙ c.if-is_inside-2.false) (decides _ _ (sym c.is_inside-3.ensures ∙ c.if-is_inside-3.true))))

pub returns-then-is_inside-4 : goal.returns-then-is_inside-4
unfolding collide
returns-then-is_inside-4 c = goes_on _ _ _ (sym c.cross.ensures ∙ c.if-cross.false) (goes_on _ _ _ (sym c.is_inside.ensures ∙ c.if-is_inside.false) (goes_on _ _ _ (sym c.is_inside-2.ensures ∙ c.if-is_inside-2.false) (goes_on _ _ _ (sym c.is_inside-3.ensures ∙ c.if-is_inside-3.false) (decides _ _ (sym c.is_inside-4.ensures ∙ c.if-is_inside-4.true)))))

pub returns-then-is_end : goal.returns-then-is_end
unfolding collide
returns-then-is_end c = goes_on _ _ _ (sym c.cross.ensures ∙ c.if-cross.false) (goes_on _ _ _ (sym c.is_inside.ensures ∙ c.if-is_inside.false) (goes_on _ _ _ (sym c.is_inside-2.ensures ∙ c.if-is_inside-2.false) (goes_on _ _ _ (sym c.is_inside-3.ensures ∙ c.if-is_inside-3.false) (goes_on _ _ _ (sym c.is_inside-4.ensures ∙ c.if-is_inside-4.false) (both _ _ _ (sym c.is_end.ensures ∙ c.if-is_end.true) c.is_end-then-is_end.ensures)))))

pub returns-else-is_end : goal.returns-else-is_end
unfolding collide
returns-else-is_end c = goes_on _ _ _ (sym c.cross.ensures ∙ c.if-cross.false) (goes_on _ _ _ (sym c.is_inside.ensures ∙ c.if-is_inside.false) (goes_on _ _ _ (sym c.is_inside-2.ensures ∙ c.if-is_inside-2.false) (goes_on _ _ _ (sym c.is_inside-3.ensures ∙ c.if-is_inside-3.false) (goes_on _ _ _ (sym c.is_inside-4.ensures ∙ c.if-is_inside-4.false) (not_both _ _ _ (sym c.is_end.ensures ∙ c.if-is_end.false) c.is_end.ensures)))))
