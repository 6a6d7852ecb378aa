use Rattle.std.proofs.Common.{◌≡◌, sym, ap, ◌∙◌, option_copied, Bool, true, false}
use Rattle.std.proofs.lemmas.Bool.{both_ways}
use Rattle.spatial_tree.proofs.Settles.{top_round}
use Rattle.spatial_tree.proofs.mark.close.Goals as goal
use Rattle.spatial_tree.proofs.mark.close.Goals.{in-OnWay, in_default-matches}

pub mark_loop-requires-clause-round : goal.mark_loop-requires-clause-round
mark_loop-requires-clause-round c =
    top_round c.args.steps.now c.args.marks.now c.args.way.now c.in-Some.top.now c.in-Some-up_of.up c.requires.known
    (sym c.last.ensures.value ∙ ap option_copied c.in-Some.is)
    (sym c.up_of.ensures ∙ c.in-Some-up_of.is)
    (elim c.match-matches.branch [
      | in-OnWay w ↦ sym c.mark_at.ensures ∙ w.in-OnWay.is
      | in_default-matches w ↦ absurd (both_ways c.match-matches.matches w.matches-is c.if-matches.true)
    ])
