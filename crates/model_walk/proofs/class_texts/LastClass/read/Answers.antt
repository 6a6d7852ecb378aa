use Rattle.std.proofs.Common.{Some, sym, ap, ◌∙◌, subst}
use Rattle.model_walk.specs.SketchLists.{IsWordOf}
use Rattle.model_walk.proofs.class_texts.LastClass.read.Goals as goal

pub invariant_of-self : goal.invariant_of-self
invariant_of-self c = subst (IsWordOf c.args.code) (sym (c.in_ok-copy.ensures ∙ c.in_ok-class.ensures)) c.in-Some.ensures.some

pub returns-in-Some : goal.returns-in-Some
returns-in-Some c = c.in-Some.ensures.some c.args.instance.now.keyword (sym c.requires) ∙ ap Some (sym c.in_ok-class.ensures)
