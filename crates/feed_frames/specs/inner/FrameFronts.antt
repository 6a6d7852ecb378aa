-- A frame that stands whole at the front of bytes.
use Rattle.std.specs.Prelude.{◌≡◌, ℕ, ◌+◌, ◌≤◌, List, length, take, drop}
use Rattle.feed_frames.specs.FrameStreams.{count_at}

-- so many bytes as the count says follow it, and they are these
abbrev pub IsFrameAt : List ℕ → List ℕ → Type 0
IsFrameAt bytes inside =
    (8 ≤ length bytes) × (8 + count_at bytes ≤ length bytes)
    × (inside ≡ take (count_at bytes) (drop 8 bytes))
