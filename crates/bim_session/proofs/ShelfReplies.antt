-- A reply from the shelf, to a call that gives a turn.
use Rattle.std.proofs.Common.{◌≡◌, Option, Some, None, Result, Ok, Err}
use Rattle.std.specs.Prelude.{IfOk, IfSome}
use Rattle.book_history.specs.declared.requests.BookCall.{BookCall}
use Rattle.book_history.specs.declared.replies.BookReply.{BookReply}
use Rattle.bim_session.specs.declared.notes.Notes.{Notes}
use Rattle.bim_session.specs.ShelfNotes.{IsUpTo, AsksShelf, IsShelfReply, AsksKept, IsKeptReply}

module _ {E : Type 0} (r : Result (Option BookReply) E) (notes : Notes) (call : BookCall) where
  -- it is kept for a call that gives no later turn
  pub kept_up_to : IsUpTo notes.turn call.seen → IfOk r (λ o. IfSome o (IsShelfReply notes call.request)) → IfOk r (λ o. IfSome o (IsKeptReply notes call))
  kept_up_to up_to is = by r is
    where
      by : (s : Result (Option BookReply) E) → IfOk s (λ o. IfSome o (IsShelfReply notes call.request)) → IfOk s (λ o. IfSome o (IsKeptReply notes call))
      by (Ok None) shelf = tt
      by (Ok (Some reply)) shelf = (shelf, up_to)
      by (Err e) shelf = tt

  -- where there is none, none is asked for
  pub unkept_up_to : IfOk r (λ o. o ≡ None → ¬ (AsksShelf notes call.request)) → IfOk r (λ o. o ≡ None → ¬ (AsksKept notes call))
  unkept_up_to is = by r is
    where
      by : (s : Result (Option BookReply) E) → IfOk s (λ o. o ≡ None → ¬ (AsksShelf notes call.request)) → IfOk s (λ o. o ≡ None → ¬ (AsksKept notes call))
      by (Ok o) none = λ is_none asks. none is_none asks.0
      by (Err e) none = tt
