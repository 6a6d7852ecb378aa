use Rattle.std.proofs.Common.{sym, ap, ◌∙◌}
use Rattle.check_workers.proofs.WorkersMade.{map_same}
use Rattle.serve_lanes.proofs.lanes.run_all.Goals as goal

pub returns-clause-numbers : goal.returns-clause-numbers
returns-clause-numbers g c = map_same (λ l. (g.D.Door.seen l.door).number) c.args.lanes.now c.for_each_mut.new.s c.for_each_mut.auto.s (λ i d h.
    let a = (c.for_each_mut.ensures i d h).1 in
    ap (λ l. (g.D.Door.seen l.door).number) (sym a.left) ∙ a.call.1 ∙ ap (λ l. (g.D.Door.seen l.door).number) a.argument_is)
