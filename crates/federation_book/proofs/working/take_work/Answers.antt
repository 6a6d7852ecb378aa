use Rattle.std.proofs.Common.{◌≡◌, ◌+◌, ◌-◌, ◌%◌, ◌<◌, ◌≤◌, length, drop, get_or, sum_by, sym, ◌∙◌, ap, subst, arith}
use Rattle.std.specs.List.{flat_map}
use Rattle.std.proofs.lemmas.List.{drop_all}
use Rattle.std.proofs.lemmas.Nat.{mod_below}
use Rattle.book_history.specs.History.{state_of, live_of, left_in, left_all, project_numbers}
use Rattle.book_history.specs.Requests.{orders_of, all_orders}
use Rattle.book_history.specs.Weights.{told}
use Rattle.federation_book.specs.KeptProjects.{KeepsProject}
use Rattle.federation_book.proofs.Counting.{told_under}
use Rattle.federation_book.proofs.Taking.{numbers_length, kept_here, below_told, orders_kept, few_kept, all_length, left_one, left_behind, order_behind, order_own, none_to_give, one_to_give}
use Rattle.federation_book.proofs.working.take_work.Goals as goal

pub returns-then-total-eq0 : goal.returns-then-total-eq0
returns-then-total-eq0 c =
    let projects = length c.args.state.now.projects.items in
    let h = c.args.state.now.entries.items in
    sym (none_to_give h (all_orders projects h) c.args.seat (all_length projects h ∙ sym c.left_all-total.ensures ∙ c.if-total-eq0.true))

pub loop-index-init : goal.loop-index-init
loop-index-init c =
    let projects = length c.args.state.now.projects.items in
    let h = c.args.state.now.entries.items in
    let total = c.left_all-total.result in
    let apart = c.if-total-eq0.false in
    let some : 0 < total = omega (arith, apart) in
    record {
      within = subst (λ n. c.args.seat % total < n) c.left_all-total.ensures (mod_below c.args.seat total some);
      there = λ d. ap (λ n. get_or (all_orders projects h) (c.args.seat % n) d) (sym c.left_all-total.ensures);
    }

pub order_in-requires-clause-few : goal.order_in-requires-clause-few
order_in-requires-clause-few c =
    let h = c.args.state.now.entries.items in
    let i = c.loop-index.index in
    let all = c.args.state.now.projects.ok.0 in
    let end = c.len-index-end.ensures in
    let test = c.loop-index-test.true in
    few_kept c.index-project.result.now (state_of (i + 1) h)
    (kept_here c.args.state.now.projects.items h i c.index-project.result.now c.requires.states (omega (arith, all, end, test)) c.index-project.ensures)

pub order_in-requires-clause-place : goal.order_in-requires-clause-place
order_in-requires-clause-place c =
    let told_is = c.left_in-left.ensures ∙ ap (λ l. told (left_in l)) c.deref.ensures.value in
    below_told c.loop-index.place (left_in c.index-project.result.now.live.items) (subst (λ n. c.loop-index.place < n) told_is c.if-place-left.true)

pub returns-then-place-left : goal.returns-then-place-left
returns-then-place-left c =
    let projects = length c.args.state.now.projects.items in
    let h = c.args.state.now.entries.items in
    let i = c.loop-index.index in
    let place = c.loop-index.place in
    let p = c.index-project.result.now in
    let total = c.left_all-total.ensures in
    let apart = c.if-total-eq0.false in
    let count = all_length projects h in
    let all = c.args.state.now.projects.ok.0 in
    let end = c.len-index-end.ensures in
    let test = c.loop-index-test.true in
    let lt : i < projects = omega (arith, all, end, test) in
    let k : KeepsProject p (state_of (i + 1) h) = kept_here c.args.state.now.projects.items h i p c.requires.states lt c.index-project.ensures in
    let told_is = c.left_in-left.ensures ∙ ap (λ l. told (left_in l)) c.deref.ensures.value ∙ ap (λ l. told (left_in l)) k.live in
    let within : place < left_in (live_of (i + 1) h) = below_told place (left_in (live_of (i + 1) h)) (subst (λ n. place < n) told_is c.if-place-left.true) in
    sym (one_to_give h (all_orders projects h) c.args.seat c.in_ok-order.order (omega (arith, total, apart, count)) (λ d.
    c.in_ok-order.ensures d
    ∙ ap (λ os. get_or os place d) (orders_kept p (i + 1) (state_of (i + 1) h) k)
    ∙ sym (order_own projects h i place lt d within)
    ∙ sym (c.loop-index.invariant.there d)
    ∙ ap (λ n. get_or (all_orders projects h) (c.args.seat % n) d) (sym count)))

pub loop-index-preserved : goal.loop-index-preserved
loop-index-preserved c =
    let projects = length c.args.state.now.projects.items in
    let h = c.args.state.now.entries.items in
    let i = c.loop-index.index in
    let place = c.loop-index.place in
    let p = c.index-project.result.now in
    let all = c.args.state.now.projects.ok.0 in
    let end = c.len-index-end.ensures in
    let test = c.loop-index-test.true in
    let lt : i < projects = omega (arith, all, end, test) in
    let k : KeepsProject p (state_of (i + 1) h) = kept_here c.args.state.now.projects.items h i p c.requires.states lt c.index-project.ensures in
    let one = left_one projects h i lt in
    let room = c.requires.room in
    let most = c.requires.within.journal in
    let left : c.left_in-left.result ≡ left_in (live_of (i + 1) h) =
    c.left_in-left.ensures ∙ ap (λ l. told (left_in l)) c.deref.ensures.value ∙ ap (λ l. told (left_in l)) k.live ∙ told_under (left_in (live_of (i + 1) h)) (left_all projects h) one (omega (arith, room, most)) in
    let le : left_in (live_of (i + 1) h) ≤ place = subst (λ n. n ≤ place) left c.if-place-left.false in
    record {
      within = subst (λ n. place - n < sum_by (λ m. left_in (live_of m h)) (drop (i + 1) (project_numbers projects))) (sym left) (left_behind projects h i place lt c.loop-index.invariant.within le);
      there = λ d.
          c.loop-index.invariant.there d
          ∙ order_behind projects h i place lt d le
          ∙ ap (λ n. get_or (flat_map (λ m. orders_of m (state_of m h)) (drop (i + 1) (project_numbers projects))) (place - n) d) (sym left);
    }

pub unreachable-requires : goal.unreachable-requires
unreachable-requires c =
    let projects = length c.args.state.now.projects.items in
    let h = c.args.state.now.entries.items in
    let all = c.args.state.now.projects.ok.0 in
    let end = c.len-index-end.ensures in
    let test = c.loop-index-test.false in
    let count = numbers_length projects in
    let none = drop_all c.loop-index.index (project_numbers projects) (omega (arith, all, end, test, count)) in
    let within = c.loop-index.invariant.within in
    let sum = ap (sum_by (λ n. left_in (live_of n h))) none in
    omega (arith, within, sum)
