-- Changes that a request asks for by their numbers.
use Rattle.book_history.specs.declared.changes.Change.{Change}
use Rattle.book_history.specs.declared.changes.Change.TheVariants as change

-- all but that a bucket is done, and new rules, which are shared as they are
abbrev pub IsAskedWhole : Change → Type 0
IsAskedWhole (change.SetRules rules weight) = ⊥
IsAskedWhole (change.BucketDone version cell) = ⊥
IsAskedWhole _ = Unit {0}
