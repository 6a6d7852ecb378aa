use Rattle.std.proofs.Common.{◌≡◌, ◌<◌, ◌∙◌, sym, subst, length, true, false, Bool, arith}
use Rattle.std.proofs.lemmas.Bool.{both_ways}
use Rattle.spatial_tree.specs.inner.StoreyMarks.{Settling, KeepsSeen}
use Rattle.spatial_tree.proofs.Settles.{settle_skips, settle_sets, settled_seen, popped_done, popped_within}
use Rattle.spatial_tree.proofs.mark.settle.Goals as goal
use Rattle.spatial_tree.proofs.mark.settle.Goals.{in-Looped, in_default-matches}

pub loop-at-preserved : goal.loop-at-preserved
loop-at-preserved c = record {
  settling = settle_skips c.args.steps.now c.loop-at.marks c.loop-at.way.items c.pop.new.self.items c.in-Some.at c.in-Some.ensures.items
      (elim c.match-matches.branch [
        | in-Looped w ↦ sym c.mark_at.ensures ∙ w.in-Looped.is
        | in_default-matches w ↦ absurd (both_ways c.match-matches.matches w.matches-is c.if-not-matches.false)
      ]) c.loop-at.invariant.settling;
  seen = c.loop-at.invariant.seen;
}

pub answer-storey-requires-clause-done : goal.answer-storey-requires-clause-done
answer-storey-requires-clause-done c = popped_done c.args.steps.now c.loop-at.marks c.loop-at.way.items c.pop.new.self.items c.in-Some.at c.in-Some.ensures.items c.loop-at.invariant.settling

pub set_mark-requires : goal.set_mark-requires
set_mark-requires c =
    let w = popped_within c.args.steps.now c.loop-at.marks c.loop-at.way.items c.pop.new.self.items c.in-Some.at c.in-Some.ensures.items c.loop-at.invariant.settling in
    let s = c.loop-at.invariant.settling.right.size in
    omega arith

pub loop-at-preserved-then-not-matches : goal.loop-at-preserved-then-not-matches
loop-at-preserved-then-not-matches c =
    let w = popped_within c.args.steps.now c.loop-at.marks c.loop-at.way.items c.pop.new.self.items c.in-Some.at c.in-Some.ensures.items c.loop-at.invariant.settling in
    let s = c.loop-at.invariant.settling.right.size in
    let l : c.in-Some.at < length c.loop-at.marks = omega arith in
    record {
      settling = subst (λ m. Settling c.args.steps.now m c.pop.new.self.items) (sym c.set_mark.ensures)
          (settle_sets c.args.steps.now c.loop-at.marks c.loop-at.way.items c.pop.new.self.items c.in-Some.at c.answer-storey.result c.in-Some.ensures.items
          (elim c.match-matches.branch [
            | in-Looped w ↦ absurd (both_ways c.match-matches.matches c.if-not-matches.true w.matches-is)
            | in_default-matches w ↦ λ e. w.in_default-matches.not-Looped (c.mark_at.ensures ∙ e)
          ]) c.answer-storey.ensures c.loop-at.invariant.settling);
      seen = subst (λ m. KeepsSeen c.args.marks.now m) (sym c.set_mark.ensures) (λ j h. settled_seen c.loop-at.marks c.in-Some.at c.answer-storey.result l j (c.loop-at.invariant.seen j h));
    }
