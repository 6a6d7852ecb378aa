use Rattle.std.proofs.Common.{◌≡◌, ◌%◌, ◌<◌, length, drop, get_or, sum_by}
use Rattle.std.specs.List.{flat_map}
use Rattle.book_history.specs.Orders.{OrderValue}
use Rattle.book_history.specs.History.{state_of, live_of, left_in, left_all, project_numbers}
use Rattle.book_history.specs.Requests.{orders_of, all_orders}
use Rattle.federation_book.proofs.working.take_work.Given as goal

abbrev pub invariant-loop-index : goal.invariant-loop-index
invariant-loop-index l =
    let projects = length l.fn.state.projects.items in
    let h = l.fn.state.entries.items in
    let rest = drop l.index (project_numbers projects) in
    record {
      within : l.place < sum_by (λ n. left_in (live_of n h)) rest;
      there : (d : OrderValue) → get_or (all_orders projects h) (l.fn.seat % left_all projects h) d ≡ get_or (flat_map (λ n. orders_of n (state_of n h)) rest) l.place d;
    }
