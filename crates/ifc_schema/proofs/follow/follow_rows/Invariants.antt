use Rattle.std.proofs.Common.{ℕ, ◌<◌, length, get_or}
use Rattle.p21_values.specs.declared.value.Value21.{Value21}
use Rattle.ifc_schema.specs.Used.{RefersTo, SomeItem, LeadsTo}
use Rattle.ifc_schema.specs.InstanceMarks.{Grows, IsMarked}
use Rattle.ifc_schema.proofs.follow.follow_rows.Given as goal

abbrev pub invariant-loop-row : goal.invariant-loop-row
invariant-loop-row l = record {
  grows : Grows l.exchange l.initial.work l.work;
  marked : (k : ℕ) → k < length l.yielded → (d : Value21) → (to : ℕ) → SomeItem (RefersTo to) (get_or l.rows k d) → LeadsTo l.exchange l.targets to → IsMarked l.exchange l.work 0 to;
}
