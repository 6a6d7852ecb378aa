-- What becomes of a call by the turn that it gives.
use Rattle.std.proofs.Common.{◌≡◌, ◌++◌, ◌<◌, ℕ, List, [], Option, Some, None, Bool, nat_le, if◌then◌else◌, false, ap, arith, append-nil, ◌∙◌}
use Rattle.std.proofs.lemmas.Bool.Decides.{nat_tests}
use Rattle.book_turn.specs.declared.object.Stamp.{Stamp}
use Rattle.book_turn.specs.Entries.{listed}
use Rattle.book_history.specs.declared.limits.Settings.{Settings}
use Rattle.book_history.specs.declared.requests.BookCall.{BookCall}
use Rattle.book_history.specs.declared.changes.Entry.{Entry}
use Rattle.book_history.specs.declared.book_fault.BookFault.{BookFault}
use Rattle.book_history.specs.declared.book_fault.BookFault.TheVariants.{TurnAhead}
use Rattle.book_history.specs.declared.replies.ReplyBody.TheVariants.{Refused}
use Rattle.book_history.specs.declared.replies.BookReply.{BookReply}
use Rattle.book_history.specs.History.{horizon_of}
use Rattle.book_history.specs.Requests.{refused_or, outcome_of, outcome_in, body_of, entry_by, ahead, without_turn, added_by, reply_of}

-- what a call adds and how it is answered, by its refusal for the turn that it gives
abbrev added_after : Settings → List Entry → Stamp → BookCall → Option BookFault → List Entry
added_after settings h stamp call fault = listed (entry_by stamp (refused_or fault (outcome_of settings h call.request)))

abbrev reply_after : Settings → List Entry → Stamp → BookCall → Option BookFault → BookReply
reply_after settings h stamp call fault = record {
  body = body_of h (refused_or fault (outcome_of settings h call.request));
  horizon = horizon_of settings.projects (h ++ added_after settings h stamp call fault);
}

module _ (settings : Settings) (h : List Entry) (stamp : Stamp) (call : BookCall) where
  -- a call whose turn isn't below its own is refused, and adds nothing
  pub ahead_adds : (fault : BookFault) → ahead stamp.turn call.seen ≡ Some fault → added_by settings h stamp call ≡ []
  ahead_adds fault is = ap (added_after settings h stamp call) is

  pub ahead_told : (fault : BookFault) → ahead stamp.turn call.seen ≡ Some fault
      → reply_of settings h stamp call ≡ record { body = Refused fault; horizon = horizon_of settings.projects h }
  ahead_told fault is =
      ap (reply_after settings h stamp call) is
      ∙ ap (λ (es : List Entry). (let r : BookReply = record { body = Refused fault; horizon = horizon_of settings.projects es } in r)) (append-nil h)

  -- any other is answered as its request, and adds what that adds
  pub below_adds : ahead stamp.turn call.seen ≡ None → added_by settings h stamp call ≡ added_by settings h stamp (without_turn call.request)
  below_adds is = ap (added_after settings h stamp call) is

  pub below_told : ahead stamp.turn call.seen ≡ None → reply_of settings h stamp call ≡ reply_of settings h stamp (without_turn call.request)
  below_told is = ap (reply_after settings h stamp call) is

-- a turn that is below isn't ahead
pub not_ahead : (turn given : ℕ) → given < turn → ahead turn (Some given) ≡ None
not_ahead turn given lt =
    let above : nat_le turn given ≡ false = grind (arith, nat_tests, lt) in
    ap (λ (b : Bool). (if b then Some (TurnAhead given turn) else None)) above
