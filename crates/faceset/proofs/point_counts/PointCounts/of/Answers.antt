use Rattle.std.proofs.Common.{length, sym, ap, ◌∙◌}
use Rattle.faceset.proofs.PointLists.{points_at, no_points, counts_more}
use Rattle.faceset.proofs.point_counts.PointCounts.of.Goals as goal

pub returns-in_default-clause-count : goal.returns-in_default-clause-count
returns-in_default-clause-count c = sym (ap length (no_points c.args.exchange.now c.args.set.now (sym c.in_default.ensures)))

pub returns-in-Some-get-clause-count : goal.returns-in-Some-get-clause-count
returns-in-Some-get-clause-count c =
    (c.requires c.in-Some.id c.in-Some-get.count (sym c.in-Some-get.ensures)).0 ∙ ap length (sym (points_at c.args.exchange.now c.args.set.now c.in-Some.id (sym c.in-Some.ensures)))

pub returns-clause-kept : goal.returns-clause-kept
returns-clause-kept c =
    counts_more c.args.exchange.now c.args.self.now c.put.new.self c.in-Some.id c.len-count.result
    (c.len-count.ensures.count ∙ ap length (c.spelled_points.ensures ∙ points_at c.args.exchange.now c.args.set.now c.in-Some.id (sym c.in-Some.ensures)))
    c.len-count.ensures.few c.in_ok-put.ensures c.requires
