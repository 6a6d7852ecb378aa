use Rattle.std.proofs.Common.{rules, nat_lt, arith, get_or, sym, subst, ◌+◌, ◌≤◌}
use Rattle.std.proofs.lemmas.Bool.Decides.{nat_tests}
use Rattle.std.proofs.lemmas.List.Sorted.{IsNonDecreasingBy-from_sort, IsPartitionedBy-ltb, IsPartitionPoint-from_clause}
use Rattle.spatial_tree.specs.declared.relations.Link.{Link}
use Rattle.spatial_tree.specs.inner.Onlys.{Counts, link}
use Rattle.spatial_tree.proofs.Counting.{HasBefore, before_first, none_later, more_at, counts_all}
use Rattle.spatial_tree.proofs.only.count_above.Goals as goal

pub loop-at-init : goal.loop-at-init
loop-at-init c =
    let up = IsNonDecreasingBy-from_sort (λ (l : Link). l.object) c.args.links.now c.requires in
    let point = IsPartitionPoint-from_clause (λ (l : Link). nat_lt l.object c.args.object) _ _ c.partition_point-first.ensures.partitioned (IsPartitionedBy-ltb (λ (l : Link). l.object) _ c.args.object up) (λ a r q k. search rules) in
    before_first c.args.links.now c.args.object c.partition_point-first.result (λ k d l. (let t = point.0 k d (omega arith) l in grind (arith, nat_tests)))

pub returns-then-link-object : goal.returns-then-link-object
returns-then-link-object c =
    let up = IsNonDecreasingBy-from_sort (λ (l : Link). l.object) c.args.links.now c.requires in
    let point = IsPartitionPoint-from_clause (λ (l : Link). nat_lt l.object c.args.object) _ _ c.partition_point-first.ensures.partitioned (IsPartitionedBy-ltb (λ (l : Link). l.object) _ c.args.object up) (λ a r q k. search rules) in
    let low : c.args.object ≤ (get_or c.args.links.now c.loop-at.at (link 0 0)).object = (let t = point.1 c.loop-at.at (link 0 0) c.loop-at.auto.at c.loop-at-test.true in grind (arith, nat_tests)) in
    counts_all c.args.links.now c.args.object c.loop-at.at c.loop-at.only (none_later c.args.links.now c.args.object c.loop-at.at (link 0 0) up c.loop-at-test.true low c.if-link-object.true) c.loop-at.invariant

pub loop-at-preserved : goal.loop-at-preserved
loop-at-preserved c =
    subst (λ o. Counts (HasBefore c.args.links.now (c.loop-at.at + 1) c.args.object) o) (sym c.with-only.ensures)
    (more_at c.args.links.now c.args.object c.loop-at.at c.loop-at.only (link 0 0) c.loop-at-test.true c.if-link-object.false c.loop-at.invariant)

pub returns : goal.returns
returns c = counts_all c.args.links.now c.args.object c.loop-at.at c.loop-at.only (λ k d l m e. absurd (let n = c.loop-at-test.false in omega arith)) c.loop-at.invariant
