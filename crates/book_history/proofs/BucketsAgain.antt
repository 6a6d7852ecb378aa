-- That a bucket is done is accepted again where the bucket's clashes are taken.
use Rattle.std.proofs.Common.{◌≡◌, ℕ, ◌+◌, ◌++◌, nat_le, false, List, [], ◌∷◌, Option, Some, None, append-nil, inl, inr, refl, sym, ap, ◌∙◌, arith}
use Rattle.std.proofs.lemmas.Bool.Decides.{nat_tests}
use Rattle.bucket_grid.specs.declared.cell.Cell.{Cell}
use Rattle.book_turn.specs.declared.object.Stamp.{Stamp}
use Rattle.book_turn.specs.Entries.{listed}
use Rattle.clash_publish.specs.declared.horizon.TheConstants.{LIVE_VERSIONS}
use Rattle.bucket_check.specs.ClashSets.{SetValue}
use Rattle.book_history.specs.declared.limits.Settings.{Settings}
use Rattle.book_history.specs.declared.changes.Change.TheVariants as change
use Rattle.book_history.specs.declared.changes.Entry.{Entry}
use Rattle.book_history.specs.declared.book_fault.BookFault.{BookFault}
use Rattle.book_history.specs.Versions.{version_at}
use Rattle.book_history.specs.History.{state_of, newest_of}
use Rattle.book_history.specs.Refusals.{first_of, dropped, done_before}
use Rattle.book_history.specs.Requests.{Outcome, Refusal, Accepted, refused_or, finished, entry_of, entry_by}
use Rattle.book_history.specs.Legal.{IsGiven}
use Rattle.book_history.specs.HistoryLaws.{IsWhole}
use Rattle.book_history.specs.AcceptedChanges.{IsOpenBucket, IsAccepted, IsBrought}
use Rattle.book_history.proofs.Again.{finish_again}

abbrev refusal : List Entry → ℕ → ℕ → Cell → Option BookFault
refusal h n v c =
    first_of (dropped (state_of n h) v ∷ done_before (version_at (state_of n h).versions v) c ∷ [])

-- a bucket that is still to be checked is refused for nothing
open_taken : (s : Settings) (h : List Entry) (n v : ℕ) (c : Cell) → IsOpenBucket s h n v c → refusal h n v c ≡ None
open_taken s h n v c o =
    let live = o.0.live in
    let kept : nat_le (v + LIVE_VERSIONS) (newest_of n h) ≡ false = grind (arith, nat_tests, live) in
    rw (kept, o.1) refl

module _ (s : Settings) (h after : List Entry) (stamp : Stamp) (set : SetValue) where
  abbrev n : ℕ
  n = set.work.project

  abbrev v : ℕ
  v = set.work.version

  abbrev c : Cell
  c = set.work.cell

  abbrev done : Entry
  done = entry_of stamp n (change.BucketDone v c)

  outcome : (o : Option BookFault) → refusal h n v c ≡ o → finished h set ≡ refused_or o (Accepted n (change.BucketDone v c))
  outcome o is = ap (λ (f : Option BookFault). refused_or f (Accepted n (change.BucketDone v c))) is

  adds : (o : Outcome) → after ≡ h ++ listed (entry_by stamp (finished h set)) → finished h set ≡ o → after ≡ h ++ listed (entry_by stamp o)
  adds o added is = added ∙ ap (λ (x : Outcome). h ++ listed (entry_by stamp x)) is

  by : (o : Option BookFault) → refusal h n v c ≡ o → IsWhole set.work.grid → IsGiven s h set.work → after ≡ h ++ listed (entry_by stamp (finished h set)) → IsBrought s h done after
  by None is whole given added =
      let own = outcome None is in
      inl (finish_again s h n (change.BucketDone v c) set whole given own, adds (Accepted n (change.BucketDone v c)) added own)
  by (Some f) is whole given added = inr (
    λ a. absurd (let none : Some f ≡ None = sym is ∙ open_taken s h n v c a in cc),
    adds (Refusal f) added (outcome (Some f) is) ∙ append-nil h,
  )

  -- what becomes of a history by a bucket's clashes
  pub brought_bucket : IsWhole set.work.grid → IsGiven s h set.work → after ≡ h ++ listed (entry_by stamp (finished h set)) → IsBrought s h done after
  brought_bucket whole given added = by (refusal h n v c) refl whole given added
