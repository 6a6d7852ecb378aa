use Rattle.std.proofs.Common.{ℕ, ◌<◌}
use Rattle.ifc_schema.specs.InstanceMarks.{IsRootAt, rank_at}
use Rattle.ifc_schema.proofs.Following.{going_first, all_used, all_mapped}
use Rattle.ifc_schema.proofs.visit.mark_used.Goals as goal

pub follow_all-requires-clause-going : goal.follow_all-requires-clause-going
follow_all-requires-clause-going c =
    going_first c.args.exchange.now c.in_ok-work.work c.mark_roots.new.work c.len.result c.len.ensures.count c.in_ok-work.ensures.marks c.in_ok-work.ensures.stack c.in_ok-mark_roots.ensures.grows

pub returns : goal.returns
returns c =
    let g = c.in_ok-follow_all.ensures.going in
    let s = c.in_ok-follow_all.ensures.done in
    let r : (at : ℕ) → IsRootAt c.args.exchange.now at → 0 < rank_at c.follow_all.new.work at = λ at h. c.in_ok-follow_all.ensures.grows at (c.in_ok-mark_roots.ensures.roots at h) in
    record {
      size = g.size;
      sound = g.sound;
      used = all_used c.args.exchange.now c.follow_all.new.work g s r;
      mapped = all_mapped c.args.exchange.now c.follow_all.new.work g s r;
    }
