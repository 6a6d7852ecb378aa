use Rattle.std.proofs.Common.{length, subst, sym}
use Rattle.std.specs.List.{All}
use Rattle.model_walk.specs.SketchLists.{IsNoted}
use Rattle.model_walk.proofs.SketchesKept.{same_length, all_noted, one_noted, one_there}
use Rattle.model_walk.proofs.sketch_list.Sketches.push.Goals as goal

pub invariant_of-self : goal.invariant_of-self
invariant_of-self c =
    let s = c.self.inside in
    all_noted s.frames.items c.keep_frame.new.frames.items s.ranges.items s.ranges.items s.notes.items c.keep_frame.ensures.longer (same_length s.ranges.items) c.self.invariant

pub invariant_of-self-in_err-range : goal.invariant_of-self-in_err-range
invariant_of-self-in_err-range c =
    let s = c.self.inside in
    all_noted s.frames.items c.keep_frame.new.frames.items s.ranges.items c.keep_range.new.ranges.items s.notes.items c.keep_frame.ensures.longer c.keep_range.ensures.longer c.self.invariant

pub invariant_of-self-in_err-push : goal.invariant_of-self-in_err-push
invariant_of-self-in_err-push c =
    let s = c.self.inside in
    let frames = c.keep_frame.new.frames.items in
    let ranges = c.keep_range.new.ranges.items in
    subst (All (IsNoted (length frames) (length ranges))) (sym c.in_err-push.ensures.items) (all_noted s.frames.items frames s.ranges.items ranges s.notes.items c.keep_frame.ensures.longer c.keep_range.ensures.longer c.self.invariant)

pub invariant_of-self-2 : goal.invariant_of-self-2
invariant_of-self-2 c =
    let s = c.self.inside in
    one_there s.frames.items c.keep_frame.new.frames.items s.ranges.items c.keep_range.new.ranges.items s.notes.items c.push.new.self.items _ c.args.sketch.frame c.args.sketch.range c.keep_frame.ensures.longer c.keep_range.ensures.longer c.self.invariant
    c.in_ok-frame.ensures.keeps c.in_ok-range.ensures.keeps c.in_ok-push.ensures.items

pub returns : goal.returns
returns c =
    let s = c.self.inside in
    rw (← c.self.view_is)
    (one_noted s.frames.items c.keep_frame.new.frames.items s.ranges.items c.keep_range.new.ranges.items s.notes.items c.push.new.self.items _ c.args.sketch c.keep_frame.ensures.longer c.keep_range.ensures.longer c.self.invariant
    c.in_ok-frame.ensures.keeps c.in_ok-range.ensures.keeps c.in_ok-push.ensures.items)
