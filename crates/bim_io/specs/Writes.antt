-- What a write of a whole piece leaves.
use Rattle.std.specs.Prelude.{◌≡◌, ◌≢◌, ◌++◌, List, [], ℕ, Result, Ok, Err}
use Rattle.bim_io.specs.Causes.{Rose}
use Rattle.bim_io.specs.StreamViews.{SinkSeen, SinkTakes}

-- a front of the bytes was written, and not all of them, since a write failed
abbrev pub WritesLess : SinkSeen → SinkSeen → List ℕ → Type 0
WritesLess old new bytes =
    (front : List ℕ) × (more : List ℕ) × (bytes ≡ front ++ more) × (more ≢ []) × SinkTakes old new front
    × Rose old.faults new.faults

-- all the bytes were written, or a front of them where a write failed
abbrev pub WritesWhole : {E : Type 0} → SinkSeen → SinkSeen → List ℕ → Result (Unit {0}) E → Type 0
WritesWhole old new bytes (Ok u) = SinkTakes old new bytes × (new.faults ≡ old.faults)
WritesWhole old new bytes (Err e) = WritesLess old new bytes
