use Rattle.std.proofs.Common.{ℕ, ◌<◌, get_or}
use Rattle.ifc_schema.specs.declared.form.Attribute.{Attribute}
use Rattle.ifc_schema.specs.Used.{NamesBy}
use Rattle.ifc_schema.specs.InstanceMarks.{Grows, IsMarked}
use Rattle.ifc_schema.proofs.follow.follow_attributes.Given as goal

abbrev pub invariant-loop-attribute : goal.invariant-loop-attribute
invariant-loop-attribute l = record {
  grows : Grows l.exchange l.initial.work l.work;
  marked : (k : ℕ) → k < l.attribute-index → (d : Attribute) → (to : ℕ) → NamesBy l.exchange l.mapped l.instance (get_or l.row k d) to → IsMarked l.exchange l.work 0 to;
}
