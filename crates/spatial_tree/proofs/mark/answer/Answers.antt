use Rattle.std.proofs.Common.{sym, ◌∙◌}
use Rattle.spatial_tree.specs.declared.mark.Mark.TheVariants.{Settled}
use Rattle.spatial_tree.proofs.Settles.{answers_here, answers_up}
use Rattle.spatial_tree.proofs.mark.answer.Goals as goal

pub returns-in-Some : goal.returns-in-Some
returns-in-Some c = answers_here c.args.steps.now c.args.at c.in-Some.storey (sym c.storey_at.ensures ∙ c.in-Some.is)

pub returns-in-Settled : goal.returns-in-Settled
returns-in-Settled c =
    answers_up c.args.steps.now c.args.marks.now c.args.at c.in-Some-up_of.up (Settled c.in-Settled.storey) c.requires.right
    (sym c.storey_at.ensures ∙ c.in_default.is) (sym c.up_of.ensures ∙ c.in-Some-up_of.is) (sym c.mark_at.ensures ∙ c.in-Settled.is) tt
