use Rattle.std.proofs.Common.{◌≡◌, ◌+◌, ◌-◌, ◌<◌, length, take, get_or}
use Rattle.book_history.specs.Orders.{OrderValue}
use Rattle.book_history.specs.History.{left_in}
use Rattle.book_history.specs.Requests.{orders_from}
use Rattle.federation_book.proofs.working.order_in.Given as goal

abbrev pub invariant-loop-step : goal.invariant-loop-step
invariant-loop-step l =
    let live = l.fn.project.live.items in
    let first = l.fn.project.newest + 1 - length live in
    record {
      within : l.place < left_in (take (length live - l.step) live);
      there : (d : OrderValue) → get_or (orders_from l.fn.number first live) l.fn.place d ≡ get_or (orders_from l.fn.number first (take (length live - l.step) live)) l.place d;
    }
