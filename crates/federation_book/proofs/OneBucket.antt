-- The work of a bucket by its cell.
use Rattle.std.proofs.Common.{◌≡◌, ◌≤◌, ◌<◌, ◌+◌, ℕ, true, false, List, length, Option, Some, None, Result, Ok, Err, MatchOption, sym, ap, subst, ◌∙◌, arith}
use Rattle.std.specs.Result.{IfOk}
use Rattle.std.proofs.lemmas.Bool.{false≢true}
use Rattle.bim_model.specs.Snapshots.{Version}
use Rattle.bucket_grid.specs.declared.cell.Cell.{Cell}
use Rattle.book_history.specs.declared.changes.Entry.{Entry}
use Rattle.book_history.specs.declared.limits.Settings.{Settings}
use Rattle.book_history.specs.Buckets.{buckets_of, is_among}
use Rattle.book_history.specs.Orders.{OrderValue}
use Rattle.book_history.specs.Versions.{VersionState, version_at}
use Rattle.book_history.specs.History.{state_of}
use Rattle.book_history.specs.Requests.{order_at}
use Rattle.book_history.specs.AcceptedChanges.{IsLiveBucket, IsWorkOf}
use Rattle.federation_book.specs.declared.project.Project.{Project}
use Rattle.federation_book.specs.KeptProjects.{KeepsProject}
use Rattle.federation_book.proofs.Reading.{newest_is}

abbrev IsOrderAt : ℕ → ℕ → Cell → Version → Option OrderValue → Type 0
IsOrderAt project number cell content o =
    MatchOption o (is_among (buckets_of content) cell ≡ false)
    (λ order. (is_among (buckets_of content) cell ≡ true) × (order ≡ order_at project number content cell))

-- an order by the version that is kept is the work by the history
pub work_then : {E : Type 0} (r : Result (Option OrderValue) E) (settings : Settings) (h : List Entry) (n number : ℕ) (cell : Cell) (p : Project) → KeepsProject p (state_of n h)
    → 1 ≤ n → n ≤ settings.projects → (number ≤ p.newest) × (p.newest < number + 16) → (v : VersionState) → v ≡ version_at (state_of n h).versions number
    → IfOk r (IsOrderAt n number cell v.content) → IfOk r (IsWorkOf settings h n number cell)
work_then (Err e) settings h n number cell p k low high there v is o = tt
work_then (Ok None) settings h n number cell p k low high there v is o =
    λ b. false≢true (sym (subst (λ (x : VersionState). is_among (buckets_of x.content) cell ≡ false) is o) ∙ b.bucket)
work_then (Ok (Some order)) settings h n number cell p k low high there v is o =
    let same = newest_is p (state_of n h) k in
    let made = there.0 in
    let live = there.1 in
    let at = subst (λ (x : VersionState). (is_among (buckets_of x.content) cell ≡ true) × (order ≡ order_at n number x.content cell)) is o in
    (record { low = low; high = high; made = omega (arith, same, made); live = omega (arith, same, live); bucket = at.0 }, at.1)
