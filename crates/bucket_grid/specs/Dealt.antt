-- Numbers dealt into lists: each into the lists of its span.
use Rattle.std.specs.Prelude.{◌≡◌, ℕ, ◌<◌, ◌≤◌, ◌^◌, nat_le, Bool, ◌&&◌, List, [], length, slice_index_or, All, filter}
use Rattle.bucket_grid.specs.declared.lists.Span.{Span}

-- the span has the place k
abbrev pub covers : ℕ → Span → Bool
covers k s = nat_le s.first k && nat_le k s.last

-- the span of a number
abbrev pub span_at : List Span → ℕ → Span
span_at spans n = slice_index_or spans n (record { first = 0; last = 0 })

-- each list has the numbers whose span has its place, in their order
pub record AreDealt (spans : List Span) (numbers : List ℕ) (count : ℕ) (lists : List (List ℕ)) : Type 0 where
  pub count_is : length lists ≡ count
  pub each : (k : ℕ) → k < count
      → slice_index_or lists k [] ≡ filter (λ n. covers k (span_at spans n)) numbers

-- a span below the count
pub record IsSpan (count : ℕ) (s : Span) : Type 0 where
  pub order : s.first ≤ s.last
  pub ends : s.last < count

-- the numbers are places of the list of spans, each of which ends below the count
pub record IsAmong (spans : List Span) (numbers : List ℕ) (count : ℕ) : Type 0 where
  pub few : count < 2 ^ 32
  pub places : All (λ n. n < length spans) numbers
  pub spans_below : All (IsSpan count) spans
