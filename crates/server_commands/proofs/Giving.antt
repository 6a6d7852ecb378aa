-- A bucket that a one-thread book gives out, and its set.
use Rattle.std.proofs.Common.{◌≡◌, ℕ, ◌+◌, ◌<◌, List, [], ◌∷◌, ◌++◌, length, Ok, sym, ◌∙◌, ap, subst, refl, length-append, arith}
use Rattle.std.specs.List.{flat_map, sum_by}
use Rattle.std.proofs.lemmas.List.{length-map}
use Rattle.std.proofs.lemmas.List.Sums.{sum_by-cons}
use Rattle.bucket_grid.specs.Cells.{IsBucket}
use Rattle.bucket_check.specs.ClashSets.{SetValue}
use Rattle.book_history.specs.declared.limits.Settings.{Settings}
use Rattle.book_history.specs.declared.changes.Entry.{Entry}
use Rattle.book_history.specs.declared.replies.BookReply.{BookReply}
use Rattle.book_history.specs.declared.replies.ReplyBody.TheVariants.{Work}
use Rattle.book_history.specs.declared.requests.BookCall.{BookCall}
use Rattle.book_history.specs.declared.requests.BookRequest.TheVariants.{TakeWork, Finish}
use Rattle.book_history.specs.Orders.{OrderValue, order_of}
use Rattle.book_history.specs.Versions.{VersionState, live_in, first_live}
use Rattle.book_history.specs.History.{state_of, left_in, live_of, project_numbers}
use Rattle.book_history.specs.Requests.{orders_in, orders_from, orders_of, all_orders, order_for, body_of, without_turn, reply_of, added_by}
use Rattle.book_history.specs.Legal.{IsLegal}
use Rattle.book_history.proofs.Given.{given_out}
use Rattle.book_history.proofs.Legality.{given_later}
use Rattle.bim_session.specs.Works.{IsFoundFor}
use Rattle.server_commands.specs.inner.Turns.{ServerState, Calls, with_turn, stamp_of, left_of}
use Rattle.server_commands.specs.inner.BucketWork.{GivesOut}

-- ---- as many orders as buckets are left

own_length : (p n : ℕ) (v : VersionState) → length (orders_in p n v) ≡ length v.undone
own_length p n v = length-map v.undone _

from_length : (p n : ℕ) (vs : List VersionState) → length (orders_from p n vs) ≡ left_in vs
from_length p n [] = refl
from_length p n (v ∷ vs) =
    let both = length-append (orders_from p (n + 1) vs) (orders_in p n v) in
    let rest = from_length p (n + 1) vs in
    let own = own_length p n v in
    let sum = sum_by-cons (λ (s : VersionState). length s.undone) v vs in
    omega (arith, both, rest, own, sum)

flat_length : (h : List Entry) (ns : List ℕ) → length (flat_map (λ n. orders_of n (state_of n h)) ns) ≡ sum_by (λ n. left_in (live_of n h)) ns
flat_length h [] = refl
flat_length h (n ∷ ns) =
    let both = length-append (orders_of n (state_of n h)) (flat_map (λ m. orders_of m (state_of m h)) ns) in
    let rest = flat_length h ns in
    let own = from_length n (first_live (state_of n h).versions) (live_in (state_of n h).versions) in
    let sum = sum_by-cons (λ m. left_in (live_of m h)) n ns in
    omega (arith, both, rest, own, sum)

some_order : (h : List Entry) (orders : List OrderValue) → 0 < length orders → (order : OrderValue) × (body_of h (order_for orders 0) ≡ Work order)
some_order h [] some = absurd (omega (arith, some))
some_order h (o ∷ os) some = (_, refl)

-- where buckets are left, one is given out
pub gives_some : (s : ServerState) → 0 < left_of s → (order : OrderValue) × GivesOut s order
gives_some s some =
    let count : length (all_orders s.settings.projects s.history) ≡ left_of s = flat_length s.history (project_numbers s.settings.projects) in
    some_order s.history (all_orders s.settings.projects s.history) (omega (arith, some, count))

-- ---- the two calls

-- a call takes the next turn
pub calls_ok : (call : BookCall) (old : ServerState) (settings : Settings) (history : List Entry) (turn : ℕ) (reply : BookReply) → turn ≡ old.turns + 1
    → reply ≡ reply_of old.settings old.history (stamp_of turn) call → history ≡ old.history ++ added_by old.settings old.history (stamp_of turn) call → settings ≡ old.settings
    → Calls call old (Ok (record { turn = turn; reply = reply })) (record { settings = settings; history = history; turns = turn })
calls_ok call old settings history turn reply next is grown same =
    let here : reply ≡ reply_of old.settings old.history (stamp_of (old.turns + 1)) call = is ∙ ap (λ n. reply_of old.settings old.history (stamp_of n) call) next in
    let there : history ≡ old.history ++ added_by old.settings old.history (stamp_of (old.turns + 1)) call =
    grown ∙ ap (λ n. old.history ++ added_by old.settings old.history (stamp_of n) call) next in
    (next, here, λ i. record { settings = same i; history = there i; turns = next i })

-- the set of an order that was given out may be brought at the next turn
pub set_legal : (s : ServerState) (order : OrderValue) (set : SetValue) → GivesOut s order → IsFoundFor order set → IsBucket set.work.grid.boxes set.work.cell
    → IsLegal s.settings (with_turn (without_turn (TakeWork 0)) s).history (Finish set)
set_legal s order set given found bucket =
    let work : GivesOut s (order_of set.work) = subst (λ o. GivesOut s o) (sym found.order_is) given in
    given_later s.settings s.history (added_by s.settings s.history (stamp_of (s.turns + 1)) (without_turn (TakeWork 0))) set.work
    (given_out s.settings s.history 0 set.work work bucket)
