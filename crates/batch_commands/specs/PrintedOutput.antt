-- What is written, in blocks.
use Rattle.std.specs.Prelude.{◌≡◌, ◌≢◌, ◌⊎◌, ℕ, List, [], ◌++◌, codes, Result, Ok, Err}
use Rattle.bim_io.specs.Causes.{Rose, ComesOfFault}
use Rattle.bim_io.specs.StreamViews.{SinkSeen, SinkTakes}
use Rattle.batch_commands.specs.declared.block.Stop.{Stop}
use Rattle.batch_commands.specs.declared.block.Stop.TheVariants.{Write, Memory}

-- a front of these bytes was written
abbrev pub WritesFront : SinkSeen → SinkSeen → List ℕ → Type 0
WritesFront old new bytes =
    (front : List ℕ) × (more : List ℕ) × (bytes ≡ front ++ more) × SinkTakes old new front

-- why no more was written: a write failed, or memory ran out
abbrev pub Stops : SinkSeen → SinkSeen → Stop → Type 0
Stops old new Write = Rose old.faults new.faults
Stops old new Memory = new.faults ≡ old.faults

-- all the bytes were written, or a front of them
abbrev pub Flushes : SinkSeen → SinkSeen → List ℕ → Result (Unit {0}) Stop → Type 0
Flushes old new bytes (Ok u) = SinkTakes old new bytes × (new.faults ≡ old.faults)
Flushes old new bytes (Err stop) = WritesFront old new bytes × Stops old new stop

-- bytes were put after those of a block, of which a front was written
abbrev pub Puts : SinkSeen → SinkSeen → List ℕ → List ℕ → List ℕ → Result (Unit {0}) Stop → Type 0
Puts old new before after bytes (Ok u) =
    (written : List ℕ) × (before ++ bytes ≡ written ++ after)
    × SinkTakes old new written × (new.faults ≡ old.faults)
Puts old new before after bytes (Err stop) = WritesFront old new (before ++ bytes) × Stops old new stop

-- the exit status of a command that stopped at a write or out of memory
abbrev pub stop_status : Stop → ℕ
stop_status Write = 5
stop_status Memory = 6

-- the status of what was to be printed
abbrev pub status_of : ℕ → Result (Unit {0}) Stop → ℕ
status_of success (Ok u) = success
status_of success (Err stop) = stop_status stop

-- a command wrote all these bytes and ended with this status, or wrote a front of them and stopped
abbrev pub Prints : SinkSeen → SinkSeen → List ℕ → ℕ → ℕ → Type 0
Prints old new bytes done status =
    ((status ≡ done) × SinkTakes old new bytes × (new.faults ≡ old.faults))
    ⊎ ((stop : Stop) × (status ≡ stop_status stop) × WritesFront old new bytes × Stops old new stop)

-- ---- the usage line, and out of memory

-- the line that says which commands there are
abbrev pub usage_line : List ℕ
usage_line = codes "usage: bim_server replay|check|generate|serve\n"

-- the usage line is written, or a front of it exactly where a write failed
pub record PrintsUsage (old new : SinkSeen) (status : ℕ) : Type 0 where
  pub status_is : status ≡ 2
  pub front : List ℕ
  pub more : List ℕ
  pub line : usage_line ≡ front ++ more
  pub wrote : SinkTakes old new front
  pub short : ComesOfFault old.faults new.faults (more ≢ [])

-- memory ran out before anything was written
pub record WantsMemory (old new : SinkSeen) (status : ℕ) : Type 0 where
  pub status_is : status ≡ 6
  pub same : new ≡ old
