-- What a set that is brought is answered, and what it adds.
use Rattle.std.proofs.Common.{ℕ, ◌+◌, List, [], ◌∷◌, Bool, true, false, if◌then◌else◌, nat_le, Some, None, inl, inr, refl}
use Rattle.bucket_grid.specs.declared.cell.Cell.{Cell}
use Rattle.bucket_check.specs.ClashSets.{SetValue}
use Rattle.book_turn.specs.declared.object.Stamp.{Stamp}
use Rattle.book_turn.specs.Entries.{listed}
use Rattle.book_history.specs.declared.limits.Settings.{Settings}
use Rattle.book_history.specs.declared.changes.Entry.{Entry}
use Rattle.book_history.specs.declared.changes.Change.TheVariants.{BucketDone}
use Rattle.book_history.specs.declared.book_fault.BookFault.TheVariants.{AlreadyDone, VersionDropped}
use Rattle.book_history.specs.declared.requests.BookRequest.TheVariants.{Finish}
use Rattle.clash_publish.specs.declared.horizon.TheConstants.{LIVE_VERSIONS}
use Rattle.book_history.specs.Refusals.{first_of}
use Rattle.book_history.specs.Projects.{ProjectState, newest}
use Rattle.book_history.specs.Versions.{is_done, version_at}
use Rattle.book_history.specs.History.{state_of}
use Rattle.book_history.specs.Requests.{Accepted, refused_or, outcome_of, body_of, without_turn, entry_by, added_by}
use Rattle.check_workers.specs.WorkerTurns.{AreDone, IsFinishTold}
use Rattle.check_workers.specs.declared.work.Worked.TheVariants.{Done, Already, Dropped}

-- ---- the three answers

three_answers : (h : List Entry) (p v k : ℕ) (cell : Cell) (late done : Bool)
    → IsFinishTold (body_of h (refused_or (first_of ((if late then Some (VersionDropped v k) else None) ∷ (if done then Some AlreadyDone else None) ∷ [])) (Accepted p (BucketDone v cell))))
three_answers h p v k cell true done = (Dropped k, inr (inr (v, k, refl, refl)))
three_answers h p v k cell false true = (Already, inr (inl (refl, refl)))
three_answers h p v k cell false false = (Done _, inl (_, refl, refl))

-- a set that is brought is answered in one of three ways
pub finish_told : (settings : Settings) (h : List Entry) (set : SetValue) → IsFinishTold (body_of h (outcome_of settings h (Finish set)))
finish_told settings h set =
    let project : ProjectState = state_of set.work.project h in
    three_answers h set.work.project set.work.version (newest project) set.work.cell
    (nat_le (set.work.version + LIVE_VERSIONS) (newest project)) (is_done (version_at project.versions set.work.version) set.work.cell)

-- ---- what it adds

one_done : (stamp : Stamp) (p v k : ℕ) (cell : Cell) (late done : Bool)
    → AreDone (listed (entry_by stamp (refused_or (first_of ((if late then Some (VersionDropped v k) else None) ∷ (if done then Some AlreadyDone else None) ∷ [])) (Accepted p (BucketDone v cell)))))
one_done stamp p v k cell true done = tt
one_done stamp p v k cell false true = tt
one_done stamp p v k cell false false = ((v, cell, refl), tt)

-- it adds that a bucket is checked, or nothing
pub finish_adds : (settings : Settings) (h : List Entry) (stamp : Stamp) (set : SetValue) → AreDone (added_by settings h stamp (without_turn (Finish set)))
finish_adds settings h stamp set =
    let project : ProjectState = state_of set.work.project h in
    one_done stamp set.work.project set.work.version (newest project) set.work.cell
    (nat_le (set.work.version + LIVE_VERSIONS) (newest project)) (is_done (version_at project.versions set.work.version) set.work.cell)
