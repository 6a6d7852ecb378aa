use Rattle.std.proofs.Common.{ℕ, length, sym, ap, arith}
use Rattle.p21_values.specs.declared.value.Value21.{Value21}
use Rattle.ifc_schema.specs.declared.worklist.Work.{Work}
use Rattle.ifc_schema.specs.Used.{RefersTo, SomeItem, LeadsTo}
use Rattle.ifc_schema.specs.InstanceMarks.{IsMarked}
use Rattle.p21_values.proofs.Turns.{turn, ended}
use Rattle.ifc_schema.proofs.Growing.{grows_trans, marked_on, one_given, any_of}
use Rattle.ifc_schema.proofs.follow.follow_rows.Goals as goal

pub follow_list-requires-clause-used : goal.follow_list-requires-clause-used
follow_list-requires-clause-used c = λ to r l.
    let t = turn c.args.rows.now c.loop-row.yielded (cc) _ c.loop-row.yielded_by _ c.in-Some.is c.next.ensures.steps in
    c.requires.used to (length c.loop-row.yielded, c.in-Some.row, t.0, sym t.1, r) l

pub loop-row-preserved : goal.loop-row-preserved
loop-row-preserved c =
    let world = c.args.exchange.now in
    let grows = c.in_ok-follow_list.ensures.grows in
    let t = turn c.args.rows.now c.loop-row.yielded (cc) _ c.loop-row.yielded_by _ c.in-Some.is c.next.ensures.steps in
    record {
      grows = grows_trans world c.args.work.now c.loop-row.work c.follow_list.new.work c.loop-row.invariant.grows grows;
      marked = one_given (λ (w : Work) (v : Value21). (to : ℕ) → SomeItem (RefersTo to) v → LeadsTo world c.args.targets to → IsMarked world w 0 to) c.args.rows.now c.loop-row.yielded c.loop-row.work c.follow_list.new.work c.in-Some.row t
          (λ v h to s l. marked_on world c.loop-row.work c.follow_list.new.work 0 to grows (h to s l))
          c.loop-row.invariant.marked c.in_ok-follow_list.ensures.marked;
    }

pub returns-clause-marked : goal.returns-clause-marked
returns-clause-marked c = λ to a l.
    let world = c.args.exchange.now in
    any_of (λ (v : Value21). SomeItem (RefersTo to) v) (IsMarked world c.loop-row.work 0 to) c.args.rows.now (length c.loop-row.yielded) (let e = ap length (ended c.args.rows.now c.loop-row.yielded (cc) _ c.loop-row.yielded_by _ c.in-None.is c.next.ensures.steps) in omega arith)
    (λ k lt d s. c.loop-row.invariant.marked k lt d to s l) a
