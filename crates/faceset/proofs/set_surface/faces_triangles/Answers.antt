use Rattle.std.proofs.Common.{rules, option_copied, List, sum_by, subst, ap, ◌∙◌}
use Rattle.p21_values.specs.declared.value.Value21.{Value21}
use Rattle.p21_values.specs.Attributes.{led_to}
use Rattle.faceset.specs.FaceSets.{IsCut, Joined, face_count}
use Rattle.faceset.specs.inner.Cuts.{IsLoose}
use Rattle.p21_values.proofs.Turns.{turn, ended}
use Rattle.faceset.proofs.FaceLists.{any_here, joined_more, count_more}
use Rattle.faceset.proofs.set_surface.faces_triangles.Goals as goal

pub returns-in_default-clause-triangles : goal.returns-in_default-clause-triangles
returns-in_default-clause-triangles c =
    let loose = rw c.in_default.is at c.in_ok-more.ensures.triangles in
    let t = turn c.args.values.now c.loop-value.yielded (cc) _ c.loop-value.yielded_by _ c.in-Some.is c.next.ensures.steps in
    any_here (IsLoose (option_copied c.args.numbers) c.args.points.now) c.args.exchange.now c.args.values.now _ c.in-Some.value t.0 t.1 loose

pub loop-value-preserved : goal.loop-value-preserved
loop-value-preserved c =
    let part = rw c.in-Some-2.is at c.in_ok-more.ensures.triangles in
    let count = rw c.in-Some-2.is at c.in_ok-more.ensures.count in (
      joined_more (IsCut (option_copied c.args.numbers) c.args.points.now) c.args.exchange.now c.loop-value.yielded c.in-Some.value c.loop-value.made.items c.in-Some-2.more.items c.append.new.self.items
          (search rules) c.loop-value.invariant.0 part,
      count_more c.args.exchange.now c.loop-value.yielded c.in-Some.value c.loop-value.made.items c.in-Some-2.more.items c.append.new.self.items
          (search rules) c.loop-value.invariant.1 count,
    )

pub returns-clause-triangles : goal.returns-clause-triangles
returns-clause-triangles c =
    let all = ended c.args.values.now c.loop-value.yielded (cc) _ c.loop-value.yielded_by _ c.in-None.is c.next.ensures.steps in
    subst (λ (vs : List Value21). Joined (IsCut (option_copied c.args.numbers) c.args.points.now) (led_to c.args.exchange.now vs) c.loop-value.made.items) all c.loop-value.invariant.0

pub returns-clause-count : goal.returns-clause-count
returns-clause-count c =
    let all = ended c.args.values.now c.loop-value.yielded (cc) _ c.loop-value.yielded_by _ c.in-None.is c.next.ensures.steps in
    c.loop-value.invariant.1 ∙ ap (λ (vs : List Value21). sum_by face_count (led_to c.args.exchange.now vs)) all
