use Rattle.std.proofs.Common.{◌≡◌, ◌+◌, ◌-◌, ◌<◌, length, take, get_or, sym, ◌∙◌, ap, subst, arith}
use Rattle.std.proofs.lemmas.List.{take_all, length-take-le}
use Rattle.book_history.specs.History.{left_in}
use Rattle.book_history.specs.Requests.{orders_from}
use Rattle.federation_book.proofs.Taking.{left_snoc, order_before, take_last, some_order, no_order}
use Rattle.federation_book.proofs.working.order_in.Goals as goal

pub loop-step-init : goal.loop-step-init
loop-step-init c =
    let live = c.args.project.now.live.items in
    let all : take (length live - 0) live ≡ live = take_all (length live - 0) live (omega arith) in
    record {
      within = subst (λ l. c.args.place < left_in l) (sym all) c.requires.place;
      there = λ d. ap (λ l. get_or (orders_from c.args.number (c.args.project.now.newest + 1 - length live) l) c.args.place d) (sym all);
    }

pub returns-in-Some : goal.returns-in-Some
returns-in-Some c =
    let p = c.args.project.now in
    let live = p.live.items in
    let v = c.index-version.result.now in
    let step = c.loop-step.step in
    let first = p.newest + 1 - length live in
    let before = take (length live - (step + 1)) live in
    let all = p.live.ok.0 in
    let few = c.requires.few in
    let end = c.len-step-end.ensures in
    let test = c.loop-step-test.true in
    let lt : step < length live = omega (arith, all, end, test) in
    let is : v ≡ get_or live (length live - 1 - step) v = c.index-version.ensures ∙ ap (λ n. get_or live (n - 1 - step) v) (c.len.ensures ∙ all) in
    let count = length-take-le (length live - (step + 1)) live (omega arith) in
    let o = some_order c.args.number (p.newest - step) v c.loop-step.place c.in-Some.order (sym c.in_ok-order.ensures ∙ c.in-Some.is) in
    λ d. sym (c.loop-step.invariant.there d ∙ ap (λ l. get_or (orders_from c.args.number first l) c.loop-step.place d) (take_last live step v lt is) ∙ o.is before first d (omega (arith, count, lt, few)))

pub overflow_sub-place : goal.overflow_sub-place
overflow_sub-place c =
    let v = c.index-version.result.now in
    let least = no_order c.args.number (c.args.project.now.newest - c.loop-step.step) v c.loop-step.place (sym c.in_ok-order.ensures ∙ c.in-None.is) in
    let left = c.left-place.ensures in
    omega (arith, least, left)

pub loop-step-preserved : goal.loop-step-preserved
loop-step-preserved c =
    let p = c.args.project.now in
    let live = p.live.items in
    let v = c.index-version.result.now in
    let step = c.loop-step.step in
    let place = c.loop-step.place in
    let first = p.newest + 1 - length live in
    let before = take (length live - (step + 1)) live in
    let all = p.live.ok.0 in
    let end = c.len-step-end.ensures in
    let test = c.loop-step-test.true in
    let lt : step < length live = omega (arith, all, end, test) in
    let is : v ≡ get_or live (length live - 1 - step) v = c.index-version.ensures ∙ ap (λ n. get_or live (n - 1 - step) v) (c.len.ensures ∙ all) in
    let least = no_order c.args.number (p.newest - step) v place (sym c.in_ok-order.ensures ∙ c.in-None.is) in
    let left = c.left-place.ensures in
    let last = take_last live step v lt is in
    let within = c.loop-step.invariant.within in
    let sum = ap left_in last ∙ left_snoc before v in
    record {
      within = omega (arith, within, sum, least, left);
      there = λ d.
          c.loop-step.invariant.there d
          ∙ ap (λ l. get_or (orders_from c.args.number first l) place d) last
          ∙ order_before c.args.number first before v place d least
          ∙ ap (λ n. get_or (orders_from c.args.number first before) (place - n) d) (sym left);
    }

pub unreachable-requires : goal.unreachable-requires
unreachable-requires c =
    let live = c.args.project.now.live.items in
    let all = c.args.project.now.live.ok.0 in
    let end = c.len-step-end.ensures in
    let test = c.loop-step-test.false in
    let none : length live - c.loop-step.step ≡ 0 = omega (arith, all, end, test) in
    let within = c.loop-step.invariant.within in
    let sum = ap (λ n. left_in (take n live)) none in
    omega (arith, within, sum)
