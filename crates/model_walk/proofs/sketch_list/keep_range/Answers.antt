use Rattle.std.proofs.Common.{◌∙◌}
use Rattle.model_walk.proofs.SketchesKept.{same_length, one_longer, range_last}
use Rattle.model_walk.proofs.sketch_list.keep_range.Goals as goal

pub returns-then-count-clause-longer : goal.returns-then-count-clause-longer
returns-then-count-clause-longer c = same_length c.args.ranges.now.items

pub returns-then-last-range-3-clause-longer : goal.returns-then-last-range-3-clause-longer
returns-then-last-range-3-clause-longer c = same_length c.args.ranges.now.items

pub returns-clause-longer : goal.returns-clause-longer
returns-clause-longer c = one_longer c.args.ranges.now.items c.push.new.self.items c.args.range c.in_ok-push.ensures.items

pub returns-clause-keeps : goal.returns-clause-keeps
returns-clause-keeps c = range_last c.args.ranges.now.items c.push.new.self.items c.args.range _ c.in_ok-push.ensures.items (c.len-count.ensures ∙ c.args.ranges.now.ok.0)
