use Rattle.std.proofs.Common.{◌<◌, inl, inr, arith, subst, sym}
use Rattle.ifc_instances.proofs.Rising.{below_next}
use Rattle.ifc_schema.specs.InstanceMarks.{IsRootAt, rank_at}
use Rattle.ifc_schema.proofs.Growing.{grows_trans}
use Rattle.ifc_schema.proofs.visit.mark_roots.Goals as goal

pub loop-at-preserved : goal.loop-at-preserved
loop-at-preserved c =
    let world = c.args.exchange.now in
    let grows = c.in_ok-mark_root.ensures.grows in
    record {
      grows = grows_trans world c.args.work.now c.loop-at.work c.mark_root.new.work c.loop-at.invariant.grows grows;
      roots = λ k l r. elim (below_next k c.loop-at.at l) [
        | inl lt ↦ (let x = c.loop-at.invariant.roots k lt r in let y = grows.rises k in omega arith)
        | inr e ↦ subst (λ j. 0 < rank_at c.mark_root.new.work j) (sym e) (c.in_ok-mark_root.ensures.root (subst (IsRootAt world) e r))
      ];
    }
