use Rattle.std.proofs.Common.{length, Option, sym, ap, subst}
use Rattle.placement.specs.declared.frame.Frame.{Frame}
use Rattle.model_walk.specs.SketchLists.{KeepsFrame}
use Rattle.model_walk.proofs.SketchesKept.{same_length, one_longer, frame_last}
use Rattle.model_walk.proofs.sketch_list.keep_frame.Goals as goal

pub returns-in_default-clause-longer : goal.returns-in_default-clause-longer
returns-in_default-clause-longer c = same_length c.args.frames.now.items

pub returns-then-len-clause-longer : goal.returns-then-len-clause-longer
returns-then-len-clause-longer c = same_length c.args.frames.now.items

pub returns-clause-longer : goal.returns-clause-longer
returns-clause-longer c = one_longer c.args.frames.now.items c.push.new.self.items c.in-Some.frame c.in_ok-push.ensures.items

pub returns-clause-keeps : goal.returns-clause-keeps
returns-clause-keeps c =
    subst (λ (frame : Option Frame). KeepsFrame frame c.push.new.self.items (length c.as_slice.result.now)) (sym c.in-Some.is)
    (frame_last c.args.frames.now.items c.push.new.self.items c.in-Some.frame (length c.as_slice.result.now) c.in_ok-push.ensures.items (ap length c.as_slice.ensures.value))
