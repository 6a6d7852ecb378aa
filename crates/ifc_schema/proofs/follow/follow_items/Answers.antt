use Rattle.std.proofs.Common.{ℕ, length, sym, ap, arith}
use Rattle.p21_values.specs.declared.value.Value21.{Value21}
use Rattle.ifc_schema.specs.declared.worklist.Work.{Work}
use Rattle.ifc_schema.specs.Used.{RefersTo, LeadsTo}
use Rattle.ifc_schema.specs.InstanceMarks.{IsMarked}
use Rattle.p21_values.proofs.Turns.{turn, ended}
use Rattle.ifc_schema.proofs.Growing.{grows_trans, marked_on, one_given, any_of}
use Rattle.ifc_schema.proofs.follow.follow_items.Goals as goal

pub follow_value-requires-clause-used : goal.follow_value-requires-clause-used
follow_value-requires-clause-used c = λ to r l.
    let t = turn c.args.items.now c.loop-item.yielded (cc) _ c.loop-item.yielded_by _ c.in-Some.is c.next.ensures.steps in
    c.requires.used to (length c.loop-item.yielded, c.in-Some.item, t.0, sym t.1, r) l

pub loop-item-preserved : goal.loop-item-preserved
loop-item-preserved c =
    let world = c.args.exchange.now in
    let grows = c.in_ok-follow_value.ensures.grows in
    let t = turn c.args.items.now c.loop-item.yielded (cc) _ c.loop-item.yielded_by _ c.in-Some.is c.next.ensures.steps in
    record {
      grows = grows_trans world c.args.work.now c.loop-item.work c.follow_value.new.work c.loop-item.invariant.grows grows;
      marked = one_given (λ (w : Work) (v : Value21). (to : ℕ) → RefersTo to v → LeadsTo world c.args.targets to → IsMarked world w 0 to) c.args.items.now c.loop-item.yielded c.loop-item.work c.follow_value.new.work c.in-Some.item t
          (λ v h to s l. marked_on world c.loop-item.work c.follow_value.new.work 0 to grows (h to s l))
          c.loop-item.invariant.marked c.in_ok-follow_value.ensures.marked;
    }

pub returns-clause-marked : goal.returns-clause-marked
returns-clause-marked c = λ to a l.
    let world = c.args.exchange.now in
    any_of (λ (v : Value21). RefersTo to v) (IsMarked world c.loop-item.work 0 to) c.args.items.now (length c.loop-item.yielded) (let e = ap length (ended c.args.items.now c.loop-item.yielded (cc) _ c.loop-item.yielded_by _ c.in-None.is c.next.ensures.steps) in omega arith)
    (λ k lt d s. c.loop-item.invariant.marked k lt d to s l) a
