use Rattle.std.proofs.Common.{ℕ, inl, inr, ◌∙◌, Any}
use Rattle.ifc_instances.specs.declared.entity.Entity.TheVariants as entity
use Rattle.ifc_schema.specs.declared.form.Attribute.{Attribute}
use Rattle.ifc_schema.specs.InstanceMarks.{Grows, IsMarked}
use Rattle.ifc_schema.specs.AttributeTable.{row_of}
use Rattle.ifc_schema.specs.Used.{NamesBy}
use Rattle.ifc_schema.proofs.Results.{on_ok, on_ok2}
use Rattle.ifc_schema.proofs.Growing.{grows_trans, marked_on}
use Rattle.ifc_schema.proofs.ElementRows.{shaped, element_names, placed_names, shaped_names}
use Rattle.ifc_schema.proofs.follow.follow_element.Goals as goal

pub follow_attribute-requires-clause-used : goal.follow_attribute-requires-clause-used
follow_attribute-requires-clause-used c = λ to n. c.requires.used to (placed_names c.args.exchange.now c.args.mapped c.args.instance.now to n)

pub follow_attribute-requires-2-clause-size : goal.follow_attribute-requires-2-clause-size
follow_attribute-requires-2-clause-size c = c.in_ok-follow_attribute.ensures.grows.size ∙ c.requires.size

pub follow_attribute-requires-2-clause-used : goal.follow_attribute-requires-2-clause-used
follow_attribute-requires-2-clause-used c = λ to n. c.requires.used to (shaped_names c.args.exchange.now c.args.mapped c.args.instance.now to n)

pub returns-clause-grows : goal.returns-clause-grows
returns-clause-grows c =
    on_ok c.follow_attribute-2.result (grows_trans c.args.exchange.now c.args.work.now c.follow_attribute.new.work c.follow_attribute-2.new.work c.in_ok-follow_attribute.ensures.grows)
    c.follow_attribute-2.ensures.grows

pub returns-clause-marked : goal.returns-clause-marked
returns-clause-marked c =
    let world = c.args.exchange.now in
    let i = c.args.instance.now in
    let first = c.follow_attribute.new.work in
    let last = c.follow_attribute-2.new.work in
    let step : Grows world first last → ((to : ℕ) → NamesBy world c.args.mapped i shaped to → IsMarked world last 0 to) → (to : ℕ) → Any (λ (a : Attribute). NamesBy world c.args.mapped i a to) (row_of entity.Subject) → IsMarked world last 0 to =
    λ g m to a. elim (element_names world c.args.mapped i to a) [
      | inl n ↦ marked_on world first last 0 to g (c.in_ok-follow_attribute.ensures.marked to n)
      | inr n ↦ m to n
    ] in
    on_ok2 c.follow_attribute-2.result step c.follow_attribute-2.ensures.grows c.follow_attribute-2.ensures.marked
