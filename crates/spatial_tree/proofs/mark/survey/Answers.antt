use Rattle.std.proofs.Common.{ℕ, ◌<◌, ◌≡◌, ◌≢◌, ◌∙◌, sym, subst, length, replicate, arith}
use Rattle.std.proofs.lemmas.Grind.{common_steps}
use Rattle.spatial_tree.specs.declared.mark.Mark.TheVariants.{Unseen}
use Rattle.spatial_tree.specs.inner.StoreyMarks.{mark_at}
use Rattle.spatial_tree.proofs.Settles.{starts_right, starts_idle, surveyed, seen_more, written}
use Rattle.spatial_tree.proofs.mark.survey.Goals as goal

pub loop-start-init : goal.loop-start-init
loop-start-init c =
    let e : c.in_ok-marks.marks.items ≡ replicate (length c.args.steps.now) Unseen = grind (arith, common_steps) in
    record {
      right = starts_right c.args.steps.now c.in_ok-marks.marks.items e;
      idle = starts_idle (length c.args.steps.now) c.in_ok-marks.marks.items e;
      empty = c.in_ok-way.ensures.items;
      seen = λ k l. absurd (omega arith);
    }

pub loop-start-preserved : goal.loop-start-preserved
loop-start-preserved c =
    let n : length c.visit.new.marks ≡ c.loop-start.marks.len = c.visit.auto.marks ∙ c.deref_mut.ensures.len in
    let e = written c.loop-start.marks.len c.visit.new.marks c.loop-start.marks.items n in
    rw e (record {
      right = c.in_ok-visit.ensures.right;
      idle = c.in_ok-visit.ensures.idle;
      empty = c.in_ok-visit.ensures.empty;
      seen = seen_more c.deref_mut.result.now c.visit.new.marks c.loop-start.start c.in_ok-visit.ensures.seen c.in_ok-visit.ensures.started
          (subst (λ m. (k : ℕ) → k < c.loop-start.start → mark_at m k ≢ Unseen) (sym c.deref_mut.ensures.value) c.loop-start.invariant.seen);
    })

pub returns : goal.returns
returns c = surveyed c.args.steps.now c.loop-start.marks.items c.loop-start.start c.loop-start-test.false c.loop-start.invariant.right c.loop-start.invariant.idle c.loop-start.invariant.seen
