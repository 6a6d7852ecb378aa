-- What reading a file does.
use Rattle.std.specs.Prelude.{◌≡◌, ℕ, ◌+◌, ◌≤◌, ◌<◌, List, [], ◌++◌, length}
use Rattle.std.specs.Prelude.{Result, Ok, Err}
use Rattle.bim_io.specs.Causes.{Rose, Loses}
use Rattle.bim_io.specs.StreamViews.{SourceSeen}
use Rattle.std.specs.Io.KnownBytes.{IsAtEnd}
use Rattle.bim_files.specs.declared.front.FileError.{FileError}
use Rattle.bim_files.specs.declared.front.FileError.TheVariants.{Failed, Memory}
use Rattle.bim_files.specs.declared.front.Step.{Step}
use Rattle.bim_files.specs.declared.front.Step.TheVariants.{Again, End}
use Rattle.bim_files.specs.Files.{FilesSeen, IsFront, Holds, Tells}

-- a read went well: the bytes after the others are those that the source lost, at least one where it goes
-- on, and none at its end
abbrev pub GrownBy : SourceSeen → SourceSeen → List ℕ → List ℕ → ℕ → Step → Type 0
GrownBy old new before after most Again =
    (piece : List ℕ) × (after ≡ before ++ piece) × Loses old.left new.left piece
    × (0 < length piece) × (length piece ≤ most)
GrownBy old new before after most End = (after ≡ before) × Loses old.left new.left [] × IsAtEnd new.left

-- a read failed where the source did, or memory ran out
abbrev pub Grown : SourceSeen → SourceSeen → List ℕ → List ℕ → ℕ → Result Step FileError → Type 0
Grown old new before after most (Ok step) = GrownBy old new before after most step × (new.faults ≡ old.faults)
Grown old new before after most (Err Failed) = Rose old.faults new.faults
Grown old new before after most (Err Memory) = new.faults ≡ old.faults

-- the front of a source was read; a failure comes only of the source's
abbrev pub FrontEnds : SourceSeen → SourceSeen → Result (List ℕ) FileError → Type 0
FrontEnds old new (Ok bytes) = IsFront old.left bytes × (new.faults ≡ old.faults)
FrontEnds old new (Err Failed) = Rose old.faults new.faults
FrontEnds old new (Err Memory) = new.faults ≡ old.faults

-- a file was read, and is given back; a failure comes only of the files'
abbrev pub FileEnds : FilesSeen → FilesSeen → List ℕ → Result (List ℕ) FileError → Type 0
FileEnds old new name (Ok bytes) =
    Tells old.told new.told × Holds old.told new.told name bytes × (new.faults ≡ old.faults)
FileEnds old new name (Err Failed) = Tells old.told new.told × Rose old.faults new.faults
FileEnds old new name (Err Memory) = Tells old.told new.told × (new.faults ≡ old.faults)
