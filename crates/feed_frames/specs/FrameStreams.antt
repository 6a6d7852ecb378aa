-- Frames one after another, and what stands behind the whole ones.
use Rattle.std.specs.Prelude.{◌≡◌, ◌≢◌, ℕ, ◌+◌, ◌<◌, ◌≤◌, List, ◌++◌, length, take, drop, All, Option, Some, None, Result, Ok, Err}
use Rattle.std.specs.List.{flat_map}
use Rattle.std.specs.Int.{w64, from_be_bytes}
use Rattle.book_history.specs.Weights.{told}
use Rattle.book_history.specs.declared.changes.Entry.{Entry}
use Rattle.feed_frames.specs.declared.frame_error.FrameError.{FrameError}
use Rattle.feed_frames.specs.declared.frame_error.FrameError.TheVariants.{BadFrame, Memory}
use Rattle.feed_frames.specs.EntryBytes.{payload, frame}
use Rattle.feed_frames.specs.SpelledEntries.{IsEntry}

-- the frames of a history
abbrev pub frames : List Entry → List ℕ
frames entries = flat_map frame entries

-- the number that the first eight bytes spell
abbrev pub count_at : List ℕ → ℕ
count_at bytes = from_be_bytes w64 (take 8 bytes)

-- less than a whole frame: the count isn't whole, or fewer bytes follow it than it says
abbrev pub IsPartial : List ℕ → Type 0
IsPartial bytes = 8 ≤ length bytes → length bytes < 8 + count_at bytes

-- a whole frame stands at the front whose payload spells no entry; an empty one spells none
pub record IsBadFrame (bytes : List ℕ) : Type 0 where
  pub counted : 8 ≤ length bytes
  pub whole : 8 + count_at bytes ≤ length bytes
  pub none : (e : Entry) → IsEntry e → payload e ≢ take (count_at bytes) (drop 8 bytes)

-- a stream is the frames of these entries, and then a rest that is no whole frame
pub record Splits (stream : List ℕ) (entries : List Entry) (rest : List ℕ) : Type 0 where
  pub whole : stream ≡ frames entries ++ rest
  pub each : All IsEntry entries
  pub partial : IsPartial rest

-- a stream of which some frames were answered: how many bytes these had, as far as 64 bits hold it, and the
-- bytes behind them
pub record Unanswered : Type 0 where
  pub at : ℕ
  pub rest : List ℕ

-- the next entry of a stream, which goes on behind its frame; none where no whole frame is left; or the place
-- of a frame that spells none, which stays. A call that met want of memory changes nothing.
abbrev pub NextFrame : Unanswered → Result (Option Entry) FrameError → Unanswered → Type 0
NextFrame old (Ok (Some e)) new =
    IsEntry e × (old.rest ≡ frame e ++ new.rest) × (new.at ≡ told (old.at + length (frame e)))
NextFrame old (Ok None) new = IsPartial old.rest × (new ≡ old)
NextFrame old (Err (BadFrame at)) new = (at ≡ old.at) × IsBadFrame old.rest × (new ≡ old)
NextFrame old (Err Memory) new = new ≡ old

-- a frame begins no other: two that begin one stream are one, and so is what stands behind them
abbrev pub FramesAreApart : Type 0
FramesAreApart =
    (e f : Entry) (x y : List ℕ) → IsEntry e → IsEntry f → frame e ++ x ≡ frame f ++ y
    → (e ≡ f) × (x ≡ y)

-- a stream is the frames of one list of entries
abbrev pub StreamsSplitOnce : Type 0
StreamsSplitOnce =
    (stream : List ℕ) (es fs : List Entry) (x y : List ℕ) → Splits stream es x → Splits stream fs y
    → (es ≡ fs) × (x ≡ y)
