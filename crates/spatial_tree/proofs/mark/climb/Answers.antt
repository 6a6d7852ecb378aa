use Rattle.std.proofs.Common.{sym, subst, ◌∙◌, ◌<◌, length, set, arith}
use Rattle.spatial_tree.specs.declared.mark.Mark.TheVariants.{OnWay}
use Rattle.spatial_tree.proofs.Marking.{Climbing, climb_goes_on, unseen_falls}
use Rattle.spatial_tree.proofs.mark.climb.Goals as goal

pub loop-next-preserved : goal.loop-next-preserved
loop-next-preserved c =
    subst (λ w. Climbing c.args.steps.now c.args.marks.now (set c.loop-next.marks c.in-Some.at OnWay) w c.unseen_above-next.result c.args.start) (sym c.in_ok-push.ensures.items)
    (climb_goes_on c.args.steps.now c.args.marks.now c.loop-next.marks c.loop-next.way.items c.args.start c.in-Some.at c.loop-next.next c.unseen_above-next.result
    c.requires.within (c.loop-next.auto.marks ∙ c.requires.size) c.loop-next.invariant c.in-Some.is c.unseen_above-next.ensures)

pub loop-next-smaller : goal.loop-next-smaller
loop-next-smaller c =
    let l : c.in-Some.at < length c.loop-next.marks = (let w = c.loop-next.invariant.within c.in-Some.at c.in-Some.is in let a = c.loop-next.auto.marks in let b = c.requires.size in omega arith) in
    unseen_falls c.loop-next.marks c.in-Some.at l (c.loop-next.invariant.ahead c.in-Some.at c.in-Some.is).unseen
