use Rattle.std.proofs.Common.{◌≡◌, ℕ, get_or, Contains, arith, below_more}
use Rattle.std.proofs.lemmas.List.Sorted.{IsNonDecreasingBy-from_sort}
use Rattle.placement.proofs.Visiting.{added_when, never_visited, order_ends}
use Rattle.placement.proofs.Chaining.{least, chained, all_named, contains_at}
use Rattle.placement.proofs.chains.Chains.of.Goals as goal

pub returns-then-not-branch-clause-fault : goal.returns-then-not-branch-clause-fault
returns-then-not-branch-clause-fault c =
    let i = c.loop-id.invariant in
    let same : c.in_ok-sorted.sorted.items ≡ c.args.named.now = c.in_ok-sorted.ensures.items_if_clones_equal (λ x y e. e) in
    let never = never_visited c.args.exchange.now c.loop-id.walk c.visit.new.self (get_or c.deref-id-items.result.now c.loop-id.id-index 0) c.in_ok-visit.field-0 c.if-not-branch.true c.in_ok-visit.ensures in
    least c.args.exchange.now c.args.named.now c.in_ok-sorted.sorted.items c.deref-id-items.result.now c.loop-id.id-index same
    (rw c.deref-id-items.ensures.value c.sort_unstable.ensures.permutation)
    (rw c.deref-id-items.ensures.value (IsNonDecreasingBy-from_sort (λ x. x) c.sort_unstable.new.self.items c.sort_unstable.ensures.sorted))
    c.loop-id-test.true
    (λ k lt. order_ends c.args.exchange.now c.loop-id.walk.order.items i.settled.first (get_or c.deref-id-items.result.now k 0) (i.visited k lt))
    never

pub loop-id-preserved : goal.loop-id-preserved
loop-id-preserved c =
    let i = c.loop-id.invariant in
    let id = get_or c.deref-id-items.result.now c.loop-id.id-index 0 in
    let same : c.in_ok-sorted.sorted.items ≡ c.args.named.now = c.in_ok-sorted.ensures.items_if_clones_equal (λ x y e. e) in
    let a = added_when c.args.exchange.now c.loop-id.walk c.visit.new.self id c.in_ok-visit.field-0 c.if-not-branch.false c.in_ok-visit.ensures in
    let listed = all_named c.args.named.now c.in_ok-sorted.sorted.items c.deref-id-items.result.now id same (rw c.deref-id-items.ensures.value c.sort_unstable.ensures.permutation) (contains_at c.deref-id-items.result.now c.loop-id.id-index c.loop-id-test.true) in
    record {
      settled = a.settled;
      visited = below_more (λ (k : ℕ). Contains c.visit.new.self.order.items (get_or c.deref-id-items.result.now k 0)) c.loop-id.id-index (λ k lt. a.grows (get_or c.deref-id-items.result.now k 0) (i.visited k lt)) a.found;
      reached = a.reached c.args.named.now listed i.reached;
    }

pub returns-clause-chains : goal.returns-clause-chains
returns-clause-chains c =
    let i = c.loop-id.invariant in
    let same : c.in_ok-sorted.sorted.items ≡ c.args.named.now = c.in_ok-sorted.ensures.items_if_clones_equal (λ x y e. e) in
    chained c.args.exchange.now c.args.named.now c.in_ok-sorted.sorted.items c.deref-id-items.result.now c.loop-id.walk same
    (rw c.deref-id-items.ensures.value c.sort_unstable.ensures.permutation) i.settled i.reached (λ k lt. i.visited k (omega (arith, lt, c.loop-id-test.false)))
