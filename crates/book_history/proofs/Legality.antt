-- A request that may be made may be made in every longer history, and an added entry carries its stamp.
use Rattle.std.proofs.Common.{◌≡◌, ◌+◌, ◌-◌, ◌<◌, ◌≤◌, ℕ, List, ◌++◌, length, Option, Some, None, refl, sym, ◌∙◌, ap, arith}
use Rattle.book_turn.specs.declared.object.Stamp.{Stamp}
use Rattle.bucket_check.specs.declared.bucket_work.BucketWork.{BucketWork}
use Rattle.book_history.specs.declared.limits.Settings.{Settings}
use Rattle.book_history.specs.declared.changes.Entry.{Entry}
use Rattle.book_history.specs.declared.requests.BookRequest.{BookRequest}
use Rattle.book_history.specs.declared.requests.BookRequest.TheVariants as request
use Rattle.book_history.specs.History.{state_of}
use Rattle.book_history.specs.Requests.{Outcome, Refusal, Answer, Accepted, entry_by, entry_added, outcome_in}
use Rattle.book_history.specs.Legal.{IsGiven, IsLegal}
use Rattle.book_history.specs.declared.requests.BookCall.{BookCall}
use Rattle.book_history.proofs.States.{within}
use Rattle.book_history.proofs.Growing.{Holds, stays}

below_newest : (v n : ℕ) → 0 < n → v ≤ n - 1 → v < n
below_newest v n some le = omega arith

up_to_newest : (v n : ℕ) → v < n → v ≤ n - 1
up_to_newest v n lt = omega arith

-- a work of a history is one of every longer history
pub given_later : (s : Settings) (h more : List Entry) (w : BucketWork) → IsGiven s h w → IsGiven s (h ++ more) w
given_later s h more w g =
    let there = below_newest w.version (length (state_of w.project h).versions) (within w.project h).some g.made in
    let later = stays w.project h more w.version w.grid.version (record { there = there; is = sym g.content }) in
    record {
      low = g.low;
      high = g.high;
      made = up_to_newest w.version (length (state_of w.project (h ++ more)).versions) later.there;
      content = sym later.is;
      bucket = g.bucket;
    }

pub legal_later : (s : Settings) (h more : List Entry) (r : BookRequest) → IsLegal s h r → IsLegal s (h ++ more) r
legal_later s h more (request.Finish set) l = given_later s h more set.work l
legal_later s h more _ l = tt

stamped_by : (stamp : Stamp) (o : Outcome) (e : Entry) → entry_by stamp o ≡ Some e → e.stamp ≡ stamp
stamped_by stamp (Refusal f) e is = cc
stamped_by stamp (Answer body) e is = cc
stamped_by stamp (Accepted number change) e is =
    let same : record { stamp = stamp; project = number; change = change } ≡ e = inj is in
    sym (ap (λ (x : Entry). x.stamp) same)
  where
    inj : {a b : Entry} → Some a ≡ Some b → a ≡ b
    inj p = cc

-- an added entry carries the stamp of the call
pub stamped : (s : Settings) (h : List Entry) (stamp : Stamp) (c : BookCall) (e : Entry) → entry_added s h stamp c ≡ Some e → e.stamp ≡ stamp
stamped s h stamp c e is = stamped_by stamp (outcome_in s h stamp.turn c) e is
