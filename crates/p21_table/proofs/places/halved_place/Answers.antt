use Rattle.std.proofs.Common.{rules, nat_lt, arith}
use Rattle.std.proofs.lemmas.List.Sorted.{IsPartitionedBy-ltb, IsPartitionPoint-from_clause}
use Rattle.p21_values.specs.declared.instance_head.Head.{Head}
use Rattle.p21_table.proofs.Heads.{heads_rise, halved_there, halved_nowhere}
use Rattle.p21_table.proofs.places.halved_place.Goals as goal

pub returns-then-heads-at : goal.returns-then-heads-at
returns-then-heads-at c =
    let up = heads_rise _ _ c.kept.ensures.ids c.kept.ensures.rises in
    let point = IsPartitionPoint-from_clause (λ (h : Head). nat_lt h.id c.args.id) _ _ c.partition_point-at.ensures.partitioned (IsPartitionedBy-ltb (λ (h : Head). h.id) _ c.args.id up) (λ a r q k. search rules) in
    halved_there _ _ c.args.id c.partition_point-at.result c.kept.ensures.ids point.0 c.if-at-heads.true c.if-heads-at.true

pub returns-else-heads-at : goal.returns-else-heads-at
returns-else-heads-at c =
    let up = heads_rise _ _ c.kept.ensures.ids c.kept.ensures.rises in
    let point = IsPartitionPoint-from_clause (λ (h : Head). nat_lt h.id c.args.id) _ _ c.partition_point-at.ensures.partitioned (IsPartitionedBy-ltb (λ (h : Head). h.id) _ c.args.id up) (λ a r q k. search rules) in
    halved_nowhere _ _ c.args.id c.partition_point-at.result c.kept.ensures.ids c.kept.ensures.rises (omega arith) point.0 point.1 (λ l e. c.if-heads-at.false e)

pub returns-else-at-heads : goal.returns-else-at-heads
returns-else-at-heads c =
    let up = heads_rise _ _ c.kept.ensures.ids c.kept.ensures.rises in
    let point = IsPartitionPoint-from_clause (λ (h : Head). nat_lt h.id c.args.id) _ _ c.partition_point-at.ensures.partitioned (IsPartitionedBy-ltb (λ (h : Head). h.id) _ c.args.id up) (λ a r q k. search rules) in
    halved_nowhere _ _ c.args.id c.partition_point-at.result c.kept.ensures.ids c.kept.ensures.rises (omega arith) point.0 point.1 (λ l e. absurd (omega arith))
