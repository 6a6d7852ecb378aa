-- What contracts see of the sources, sinks and clocks in memory.
use Rattle.std.proofs.lemmas.Bool.{false≢true}
use Rattle.std.specs.Prelude.{◌≡◌, ℕ, List, [], Bool, true, false, IsTrue, refl, min, Option}

-- how many bytes a call that doesn't fail moves: as many as the limit, the room and what is there allow
abbrev pub moved : ℕ → ℕ → ℕ → ℕ
moved most room there = min most (min room there)

-- what is left where the end was answered, and where it was not
abbrev pub left_at : Bool → List ℕ → List ℕ
left_at true left = []
left_at false left = left

-- nothing is left where the end was answered
pub ended_empty : (ended : Bool) (left : List ℕ) → IsTrue ended → left_at ended left ≡ []
ended_empty true left is = refl
ended_empty false left is = absurd (false≢true is)

-- a source in memory that never fails: what is left and what was given, whether its end was answered, and the
-- most that one read gives
pub record SureSourceState : Type 0 where
  pub left : List ℕ
  pub given : List ℕ
  pub ended : Bool
  pub most : ℕ

-- a source in memory: what is left and what was given, whether its end was answered, the most that one read
-- gives, the numbers of the reads that fail, and how many reads and faults there were
pub record SourceState : Type 0 where
  pub left : List ℕ
  pub given : List ℕ
  pub ended : Bool
  pub most : ℕ
  pub fails : List ℕ
  pub calls : ℕ
  pub faults : ℕ

-- what it holds, where it still tells
pub record SureSinkState : Type 0 where
  pub held : Option (List ℕ)
  pub most : ℕ

-- a sink in memory: what it holds, the most that one write takes, the numbers of the writes that fail, and
-- how many writes and faults there were
pub record SinkState : Type 0 where
  pub held : List ℕ
  pub most : ℕ
  pub fails : List ℕ
  pub calls : ℕ
  pub faults : ℕ

-- the moments that are still to come, and those that were given, where it still tells
pub record ListClockState : Type 0 where
  pub left : List ℕ
  pub gave : Option (List ℕ)

-- whether a source of the system has answered its end, and how often it has failed
pub record StreamState : Type 0 where
  pub ended : Bool
  pub faults : ℕ

-- of a source over a reader of the system: the bytes that its reads gave, whether it has answered its end, and how often it
-- has failed
pub record ReaderState : Type 0 where
  pub given : List ℕ
  pub ended : Bool
  pub faults : ℕ

-- of a sink over a writer of the system: the bytes that its writes took, and how often it has failed
pub record WriterState : Type 0 where
  pub taken : List ℕ
  pub faults : ℕ
