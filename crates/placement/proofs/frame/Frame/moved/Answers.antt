use Rattle.std.proofs.Common.{◌+◌, ℤ, ◌+ℤ◌, ◌∙◌, sym, ap, subst}
use Rattle.placement.specs.Frames.{IsWithin, most}
use Rattle.placement.proofs.Numbers.{sum_fits, sum_held, sum_within}
use Rattle.placement.proofs.frame.Frame.moved.Goals as goal

pub overflow_add-result : goal.overflow_add-result
overflow_add-result c = sum_fits c.args.self.now.offset.x c.component.result c.requires.outer.x (c.component.ensures.within most c.requires.inner)

pub overflow_add-result-2 : goal.overflow_add-result-2
overflow_add-result-2 c = sum_fits c.args.self.now.offset.y c.component-2.result c.requires.outer.y (c.component-2.ensures.within most c.requires.inner)

pub overflow_add-result-3 : goal.overflow_add-result-3
overflow_add-result-3 c = sum_fits c.args.self.now.offset.z c.component-3.result c.requires.outer.z (c.component-3.ensures.within most c.requires.inner)

pub returns-clause-x : goal.returns-clause-x
returns-clause-x c = sum_held c.args.self.now.offset.x c.component.result c.requires.outer.x (c.component.ensures.within most c.requires.inner) ∙ ap (λ (n : ℤ). c.args.self.now.offset.x +ℤ n) c.component.ensures.value

pub returns-clause-y : goal.returns-clause-y
returns-clause-y c = sum_held c.args.self.now.offset.y c.component-2.result c.requires.outer.y (c.component-2.ensures.within most c.requires.inner) ∙ ap (λ (n : ℤ). c.args.self.now.offset.y +ℤ n) c.component-2.ensures.value

pub returns-clause-z : goal.returns-clause-z
returns-clause-z c = sum_held c.args.self.now.offset.z c.component-3.result c.requires.outer.z (c.component-3.ensures.within most c.requires.inner) ∙ ap (λ (n : ℤ). c.args.self.now.offset.z +ℤ n) c.component-3.ensures.value

pub returns-clause-within : goal.returns-clause-within
returns-clause-within c = λ a b v w. record {
  x = subst (λ (n : ℤ). IsWithin (a + b) n) (sym (sum_held c.args.self.now.offset.x c.component.result c.requires.outer.x (c.component.ensures.within most c.requires.inner))) (sum_within a b _ _ v.x (c.component.ensures.within b w));
  y = subst (λ (n : ℤ). IsWithin (a + b) n) (sym (sum_held c.args.self.now.offset.y c.component-2.result c.requires.outer.y (c.component-2.ensures.within most c.requires.inner))) (sum_within a b _ _ v.y (c.component-2.ensures.within b w));
  z = subst (λ (n : ℤ). IsWithin (a + b) n) (sym (sum_held c.args.self.now.offset.z c.component-3.result c.requires.outer.z (c.component-3.ensures.within most c.requires.inner))) (sum_within a b _ _ v.z (c.component-3.ensures.within b w));
}
