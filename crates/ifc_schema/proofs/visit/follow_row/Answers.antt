use Rattle.std.proofs.Common.{◌≡◌, ℕ, Bool, List, Some, Any, sym, subst}
use Rattle.p21_values.specs.declared.value.Instance.{Instance}
use Rattle.ifc_instances.specs.declared.entity.Entity.TheVariants.{Subject}
use Rattle.ifc_instances.specs.EntityLookup.{entity_at}
use Rattle.ifc_schema.specs.declared.form.Attribute.{Attribute}
use Rattle.ifc_schema.specs.InstanceMarks.{IsMarked}
use Rattle.ifc_schema.specs.AttributeTable.{row_of, row_at}
use Rattle.ifc_schema.specs.Used.{NamesBy}
use Rattle.ifc_schema.proofs.Results.{on_ok}
use Rattle.ifc_schema.proofs.ElementRows.{same_row, row_same}
use Rattle.ifc_schema.proofs.visit.follow_row.Goals as goal

pub follow_element-requires-clause-used : goal.follow_element-requires-clause-used
follow_element-requires-clause-used c = λ to a.
    let i = c.args.instance.now in
    let h : entity_at i ≡ Some Subject = cc (c.at.ensures, c.in-Some-Subject.is, c.in-Some-Subject.field-0-is) in
    c.requires.used to (same_row (λ (row : List Attribute). Any (λ (x : Attribute). NamesBy c.args.exchange.now c.args.mapped i x to) row) (entity_at i) h a)

-- what an instance names by a row
abbrev by : List Instance → Bool → Instance → ℕ → List Attribute → Type 0
by world mapped i to row = Any (λ (x : Attribute). NamesBy world mapped i x to) row

pub returns-in-Some-Subject-clause-marked : goal.returns-in-Some-Subject-clause-marked
returns-in-Some-Subject-clause-marked c =
    let world = c.args.exchange.now in
    let i = c.args.instance.now in
    let new = c.follow_element.new.work in
    let h : entity_at i ≡ Some Subject = cc (c.at.ensures, c.in-Some-Subject.is, c.in-Some-Subject.field-0-is) in
    let step : ((to : ℕ) → by world c.args.mapped i to (row_of Subject) → IsMarked world new 0 to) → (to : ℕ) → by world c.args.mapped i to (row_at i) → IsMarked world new 0 to =
    λ m to a. m to (row_same (by world c.args.mapped i to) (entity_at i) h a) in
    on_ok c.follow_element.result step c.follow_element.ensures.marked

pub returns-in_default-clause-marked : goal.returns-in_default-clause-marked
returns-in_default-clause-marked c =
    let world = c.args.exchange.now in
    let i = c.args.instance.now in
    let new = c.follow_attributes.new.work in
    let step : ((to : ℕ) → by world c.args.mapped i to c.row_at.result.now → IsMarked world new 0 to) → (to : ℕ) → by world c.args.mapped i to (row_at i) → IsMarked world new 0 to =
    λ m to a. m to (subst (by world c.args.mapped i to) (sym c.row_at.ensures) a) in
    on_ok c.follow_attributes.result step c.follow_attributes.ensures.marked
