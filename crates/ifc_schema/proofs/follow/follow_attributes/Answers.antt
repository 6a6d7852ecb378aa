use Rattle.std.proofs.Common.{ℕ, get_or}
use Rattle.std.proofs.lemmas.List.{get_or_default}
use Rattle.ifc_schema.specs.declared.form.Attribute.{Attribute}
use Rattle.ifc_schema.specs.declared.form.When.TheVariants.{Always}
use Rattle.ifc_schema.specs.declared.form.Need.TheVariants.{Must}
use Rattle.ifc_schema.specs.declared.form.Shape.TheVariants.{One}
use Rattle.ifc_schema.specs.declared.form.Leaf.TheVariants.{Number}
use Rattle.ifc_schema.specs.declared.worklist.Work.{Work}
use Rattle.ifc_schema.specs.Used.{NamesBy}
use Rattle.ifc_schema.specs.InstanceMarks.{IsMarked}
use Rattle.ifc_schema.proofs.Growing.{grows_trans, marked_on, one_more, any_of}
use Rattle.ifc_schema.proofs.follow.follow_attributes.Goals as goal

abbrev some_attribute : Attribute
some_attribute = record { at = 0; when = Always; need = Must; shape = One; leaf = Number }

pub loop-attribute-preserved : goal.loop-attribute-preserved
loop-attribute-preserved c =
    let world = c.args.exchange.now in
    let grows = c.in_ok-follow_attribute.ensures.grows in
    let here = get_or c.args.row.now c.loop-attribute.attribute-index some_attribute in
    record {
      grows = grows_trans world c.args.work.now c.loop-attribute.work c.follow_attribute.new.work c.loop-attribute.invariant.grows grows;
      marked = one_more (λ (w : Work) (v : Attribute). (to : ℕ) → NamesBy world c.args.mapped c.args.instance.now v to → IsMarked world w 0 to) c.args.row.now c.loop-attribute.work c.follow_attribute.new.work
          c.loop-attribute.attribute-index here c.loop-attribute-test.true (get_or_default c.args.row.now c.loop-attribute.attribute-index some_attribute here c.loop-attribute-test.true)
          (λ v h to s. marked_on world c.loop-attribute.work c.follow_attribute.new.work 0 to grows (h to s))
          c.loop-attribute.invariant.marked c.in_ok-follow_attribute.ensures.marked;
    }

pub returns-clause-marked : goal.returns-clause-marked
returns-clause-marked c = λ to a.
    let world = c.args.exchange.now in
    any_of (λ (v : Attribute). NamesBy world c.args.mapped c.args.instance.now v to) (IsMarked world c.loop-attribute.work 0 to) c.args.row.now c.loop-attribute.attribute-index c.loop-attribute-test.false
    (λ k lt d s. c.loop-attribute.invariant.marked k lt d to s) a
