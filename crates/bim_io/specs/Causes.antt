-- What a call on the outside does to what an object holds, and when it may fail.
use Rattle.std.specs.Prelude.{◌≡◌, ◌≤◌, ◌<◌, ◌+◌, ◌-◌, ◌^◌, ◌||◌, ◌&&◌, ◌==◌, min, ℕ, List, [], ◌++◌, length, take, Bool, nat_lt, Option, Some, None, Result, Ok, Err, OnOk, OnErr, IfOk, MatchResult, ⊤}
use Rattle.std.specs.Io.KnownBytes.{append_known, prepend_known, IsAtEnd}

-- a count that stands still at the end of 64 bits
abbrev pub counted : ℕ → ℕ
counted n = min (n + 1) (2 ^ 64 - 1)

-- a count of faults went up, or stands at its end
abbrev pub Rose : ℕ → ℕ → Type 0
Rose before now = counted before ≤ now

-- the count never falls; a call that failed raised it, and one that did not left it
pub record HasCause {T E : Type 0} (before now : ℕ) (result : Result T E) : Type 0 where
  pub later : before ≤ now
  pub failed : OnErr result (Rose before now)
  pub done : OnOk result (now ≡ before)

-- what is said came of a fault: only where the count of faults went up, and wherever it did
pub record ComesOfFault (before now : ℕ) (said : Type 0) : Type 0 where
  pub only : said → Rose before now
  pub always : before < now → said

-- What a source has given grows by bs, where it tells it. It tells it afterwards exactly where it did before.
abbrev pub Gains : Option (List ℕ) → Option (List ℕ) → List ℕ → Type 0
Gains old new bs = new ≡ append_known old bs

-- What is left of a source loses bs from its front, where it tells it. It tells it afterwards exactly where
-- it did before.
abbrev pub Loses : Option (List ℕ) → Option (List ℕ) → List ℕ → Type 0
Loses old new bs = old ≡ prepend_known bs new

-- a read gave the n bytes that it put into the room, and nothing where it failed
abbrev pub ReadGives : {E : Type 0} → Option (List ℕ) → Option (List ℕ) → Result ℕ E → List ℕ → Type 0
ReadGives old new r room = MatchResult r (λ n. Gains old new (take n room)) (λ _. new ≡ old)

-- a read took these n bytes off what was left, none only where nothing was left or no room, and nothing where
-- it failed
abbrev pub ReadTakes : {E : Type 0} → Option (List ℕ) → Option (List ℕ) → Result ℕ E → List ℕ → Type 0
ReadTakes old new r room =
    MatchResult r (λ n. Loses old new (take n room) × (n ≡ 0 → 0 < length room → IsAtEnd new))
    (λ _. new ≡ old)

-- whether the end was answered, with this read
abbrev pub ends_read : {E : Type 0} → Bool → ℕ → Result ℕ E → Bool
ends_read before room (Ok n) = before || (nat_lt 0 room && n == 0)
ends_read before room (Err e) = before

-- no more bytes than this, where there is such a bound
abbrev pub WithinMost : Option ℕ → ℕ → Type 0
WithinMost None n = ⊤
WithinMost (Some most) n = n ≤ most

-- of a piece that isn't empty at least one byte is written
abbrev pub WritesSome : {E : Type 0} → Result ℕ E → List ℕ → Type 0
WritesSome r piece = IfOk r (λ n. 0 < length piece → 0 < n)

-- What an object holds grows by bs, or it no longer tells. One that doesn't tell never does again.
abbrev pub Grows : Option (List ℕ) → Option (List ℕ) → List ℕ → Type 0
Grows None None bs = ⊤
Grows None (Some ys) bs = ⊥
Grows (Some xs) None bs = ⊤
Grows (Some xs) (Some ys) bs = ys ≡ xs ++ bs

-- a write appended the n bytes that it took, and nothing where it failed
abbrev pub WriteTells : {E : Type 0} → Option (List ℕ) → Option (List ℕ) → Result ℕ E → List ℕ → Type 0
WriteTells old new (Ok n) piece = Grows old new (take n piece)
WriteTells old new (Err e) piece = Grows old new []

-- a clock that has one moment gives that one
abbrev pub GivesMoment : Option ℕ → ℕ → Type 0
GivesMoment None m = ⊤
GivesMoment (Some one) m = m ≡ one
