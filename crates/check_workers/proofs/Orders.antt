-- What a call for work is answered, and what it leaves.
use Rattle.std.proofs.Common.{◌≡◌, ◌⊎◌, ℕ, ◌+◌, List, [], ◌∷◌, ◌++◌, length, inl, inr, refl, sym, ◌∙◌, ap, length-append, arith}
use Rattle.std.specs.List.{flat_map, sum_by}
use Rattle.std.proofs.lemmas.List.{length-map}
use Rattle.std.proofs.lemmas.List.Sums.{sum_by-cons}
use Rattle.bucket_grid.specs.Cells.{IsBucket}
use Rattle.bucket_check.specs.ClashSets.{SetValue}
use Rattle.book_turn.specs.declared.object.Stamp.{Stamp}
use Rattle.book_history.specs.declared.limits.Settings.{Settings}
use Rattle.book_history.specs.declared.changes.Entry.{Entry}
use Rattle.book_history.specs.declared.book_fault.BookFault.TheVariants.{NoWork}
use Rattle.book_history.specs.declared.requests.BookRequest.TheVariants.{TakeWork, Finish}
use Rattle.book_history.specs.declared.replies.ReplyBody.TheVariants.{Work, Refused}
use Rattle.book_history.specs.Orders.{OrderValue, order_of}
use Rattle.book_history.specs.Versions.{VersionState, live_in, first_live}
use Rattle.book_history.specs.History.{state_of, left_in, live_of, left_all, project_numbers}
use Rattle.book_history.specs.Requests.{orders_in, orders_from, orders_of, all_orders, order_for, outcome_of, body_of, without_turn, added_by, entry_by}
use Rattle.book_history.specs.Legal.{IsLegal}
use Rattle.book_history.proofs.Given.{given_out}
use Rattle.book_history.proofs.Legality.{given_later}
use Rattle.check_workers.specs.WorkerTurns.{IsFoundFor}

-- ---- as many orders as buckets are left

own_length : (p n : ℕ) (v : VersionState) → length (orders_in p n v) ≡ length v.undone
own_length p n v = length-map v.undone _

from_length : (p n : ℕ) (vs : List VersionState) → length (orders_from p n vs) ≡ left_in vs
from_length p n [] = refl
from_length p n (v ∷ vs) =
    let both = length-append (orders_from p (n + 1) vs) (orders_in p n v) in
    let rest = from_length p (n + 1) vs in
    let own = own_length p n v in
    let sum = sum_by-cons (λ (s : VersionState). length s.undone) v vs in
    omega (arith, both, rest, own, sum)

flat_length : (h : List Entry) (ns : List ℕ) → length (flat_map (λ n. orders_of n (state_of n h)) ns) ≡ sum_by (λ n. left_in (live_of n h)) ns
flat_length h [] = refl
flat_length h (n ∷ ns) =
    let both = length-append (orders_of n (state_of n h)) (flat_map (λ m. orders_of m (state_of m h)) ns) in
    let rest = flat_length h ns in
    let own = from_length n (first_live (state_of n h).versions) (live_in (state_of n h).versions) in
    let sum = sum_by-cons (λ m. left_in (live_of m h)) n ns in
    omega (arith, both, rest, own, sum)

-- ---- the answer

one_answer : (h : List Entry) (os : List OrderValue) (seat : ℕ)
    → ((body_of h (order_for os seat) ≡ Refused NoWork) × (length os ≡ 0)) ⊎ ((order : OrderValue) × (body_of h (order_for os seat) ≡ Work order))
one_answer h [] seat = inl (refl, refl)
one_answer h (o ∷ os) seat = inr (_, refl)

-- a call for work is refused, where no bucket is left, or is given one
pub taken : (settings : Settings) (h : List Entry) (seat : ℕ)
    → ((body_of h (outcome_of settings h (TakeWork seat)) ≡ Refused NoWork) × (left_all settings.projects h ≡ 0))
    ⊎ ((order : OrderValue) × (body_of h (outcome_of settings h (TakeWork seat)) ≡ Work order))
taken settings h seat = of_one (one_answer h (all_orders settings.projects h) seat)
  where
    of_one : ((body_of h (order_for (all_orders settings.projects h) seat) ≡ Refused NoWork) × (length (all_orders settings.projects h) ≡ 0))
        ⊎ ((order : OrderValue) × (body_of h (order_for (all_orders settings.projects h) seat) ≡ Work order))
        → ((body_of h (outcome_of settings h (TakeWork seat)) ≡ Refused NoWork) × (left_all settings.projects h ≡ 0))
        ⊎ ((order : OrderValue) × (body_of h (outcome_of settings h (TakeWork seat)) ≡ Work order))
    of_one (inl none) = inl (none.0, sym (flat_length h (project_numbers settings.projects)) ∙ none.1)
    of_one (inr some) = inr some

-- ---- what it leaves

adds_none : (stamp : Stamp) (os : List OrderValue) (seat : ℕ) → Rattle.book_turn.specs.Entries.listed (entry_by stamp (order_for os seat)) ≡ []
adds_none stamp [] seat = refl
adds_none stamp (o ∷ os) seat = refl

-- a call for work adds nothing
pub take_adds_none : (settings : Settings) (h : List Entry) (stamp : Stamp) (seat : ℕ) → added_by settings h stamp (without_turn (TakeWork seat)) ≡ []
take_adds_none settings h stamp seat = adds_none stamp (all_orders settings.projects h) seat

-- the set of an order that was given out may be brought at every history that begins so
pub set_legal : (settings : Settings) (h more : List Entry) (seat : ℕ) (order : OrderValue) (set : SetValue)
    → body_of h (outcome_of settings h (TakeWork seat)) ≡ Work order → IsFoundFor order set → IsBucket set.work.grid.boxes set.work.cell
    → IsLegal settings (h ++ more) (Finish set)
set_legal settings h more seat order set given found bucket =
    let work : body_of h (outcome_of settings h (TakeWork seat)) ≡ Work (order_of set.work) = given ∙ ap Work (sym found.order_is) in
    given_later settings h more set.work (given_out settings h seat set.work work bucket)
