use Rattle.std.proofs.Common.{◌≡◌, ℕ, ◌+◌, ◌<◌, ◌⊎◌, inl, inr, ◌∙◌, subst, Bool, true, false, arith}
use Rattle.std.proofs.lemmas.Bool.{both_ways}
use Rattle.ifc_instances.proofs.Rising.{below_next}
use Rattle.spatial_tree.specs.inner.TreeFaults.{IsFaulty}
use Rattle.spatial_tree.proofs.Listing.{not_faulty, none_faulty}
use Rattle.spatial_tree.proofs.build.first_fault.Goals as goal
use Rattle.spatial_tree.proofs.build.first_fault.Goals.{in-Looped, in_default}

pub loop-at-preserved : goal.loop-at-preserved
loop-at-preserved c k l f = elim (below_next k c.loop-at.at l) [
  | inl a ↦ c.loop-at.invariant k a f
  | inr e ↦ not_faulty c.args.steps.now c.args.marks.now c.loop-at.at _ c.if-steps-at.false
      (elim c.match-matches.branch [
        | in-Looped w ↦ absurd (both_ways c.match-matches.matches c.if-matches.false w.matches-is)
        | in_default w ↦ λ e. w.in_default.not-Looped (c.mark_at.ensures ∙ e)
      ])
      (subst (λ n. IsFaulty c.args.steps.now c.args.marks.now n) e f)
]

pub returns : goal.returns
returns c = none_faulty c.args.steps.now c.args.marks.now c.loop-at.at c.loop-at-test.false c.loop-at.invariant
