-- What the tests count.
use Rattle.std.specs.Prelude.{ℕ, length}
use Rattle.book_turn.specs.declared.object.Stamp.{Stamp}
use Rattle.book_turn.specs.Entries.{calls_by}
use Rattle.book_turn.specs.Passes.{PassState}

-- how many entries a pass, with those that were joined into it, has in what it has seen. An entry is but a stamp
abbrev pub own_count : {S : Type 0} → PassState Stamp S → ℕ
own_count v = length (calls_by (λ (e : Stamp). e.pass) v.numbers v.seen)
