use Rattle.std.proofs.Common.{◌∙◌, ◌<◌, length, arith}
use Rattle.spatial_tree.proofs.Marking.{unlooped_falls}
use Rattle.spatial_tree.proofs.Settles.{round_goes_on}
use Rattle.spatial_tree.proofs.mark.mark_loop.Goals as goal

pub loop-next-preserved : goal.loop-next-preserved
loop-next-preserved c =
    round_goes_on c.args.steps.now c.args.marks.now c.loop-next.marks c.args.start c.in-Some.at c.loop-next.next c.unlooped_above-next.result
    c.requires.within (c.loop-next.auto.marks ∙ c.requires.size) c.loop-next.invariant c.in-Some.is c.unlooped_above-next.ensures

pub loop-next-smaller : goal.loop-next-smaller
loop-next-smaller c =
    let l : c.in-Some.at < length c.loop-next.marks = (let w = c.loop-next.invariant.within c.in-Some.at c.in-Some.is in let a = c.loop-next.auto.marks in let b = c.requires.size in omega arith) in
    unlooped_falls c.loop-next.marks c.in-Some.at l (c.loop-next.invariant.unlooped c.in-Some.at c.in-Some.is)
