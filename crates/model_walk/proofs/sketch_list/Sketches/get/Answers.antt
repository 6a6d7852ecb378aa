use Rattle.std.proofs.Common.{ap, ◌∙◌, arith}
use Rattle.walk_rows.specs.Pools.{slot_in}
use Rattle.model_walk.proofs.SketchesKept.{sketch_there, note_there, as_many}
use Rattle.model_walk.proofs.sketch_list.Sketches.get.Goals as goal

pub index-note-requires : goal.index-note-requires
index-note-requires c =
    let s = c.self.inside in
    let within = as_many s.frames.items s.ranges.items s.notes.items c.args.self.now c.args.at c.self.view_is c.requires in
    omega (arith, within, s.notes.ok.0)

pub index-requires : goal.index-requires
index-requires c =
    let s = c.self.inside in
    let within = as_many s.frames.items s.ranges.items s.notes.items c.args.self.now c.args.at c.self.view_is c.requires in
    let there = note_there s.frames.items s.ranges.items s.notes.items c.args.at c.index-note.result.now c.self.invariant within c.index-note.ensures in
    omega (arith, there.range, s.ranges.ok.0)

pub returns : goal.returns
returns c =
    let s = c.self.inside in
    let note = c.index-note.result.now in
    let within = as_many s.frames.items s.ranges.items s.notes.items c.args.self.now c.args.at c.self.view_is c.requires in
    let there = note_there s.frames.items s.ranges.items s.notes.items c.args.at note c.self.invariant within c.index-note.ensures in
    rw (← c.self.view_is)
    (sketch_there s.frames.items s.ranges.items s.notes.items c.args.at note (record { frame = c.frame_at.result; range = c.index.result.now }) within c.index-note.ensures (c.frame_at.ensures ∙ ap (λ frames. slot_in frames note.frame) c.deref.ensures.value) c.index.ensures there.range)
