-- The work on buckets of a one-thread book.
use Rattle.std.specs.Prelude.{◌≡◌, ◌⊎◌, ℕ, zero, suc, ◌+◌, ◌<◌, ◌≤◌, Option}
use Rattle.bucket_check.specs.ClashSets.{SetValue}
use Rattle.book_history.specs.declared.requests.BookRequest.TheVariants.{TakeWork, Finish}
use Rattle.book_history.specs.declared.replies.ReplyBody.TheVariants.{Work}
use Rattle.book_history.specs.Orders.{OrderValue}
use Rattle.book_history.specs.Requests.{without_turn, reply_of}
use Rattle.bim_session.specs.Works.{IsFoundFor, IsEnough, IsMore}
use Rattle.server_commands.specs.inner.Turns.{ServerState, with_turn, stamp_of, left_of}

-- the next turn gives this bucket out
abbrev pub GivesOut : ServerState → OrderValue → Type 0
GivesOut s order =
    (reply_of s.settings s.history (stamp_of (s.turns + 1)) (without_turn (TakeWork 0))).body ≡ Work order

-- a bucket is given out at the next turn, and its set is brought at the turn after that
pub record WorksBucket (old new : ServerState) : Type 0 where
  pub order : OrderValue
  pub set : SetValue
  pub given : GivesOut old order
  pub found : IsFoundFor order set
  pub new_is : new ≡ with_turn (without_turn (Finish set)) (with_turn (without_turn (TakeWork 0)) old)

-- nothing was done of that, or the bucket was given out alone
abbrev pub WorksPart : ServerState → ServerState → Type 0
WorksPart old new =
    (new ≡ old)
    ⊎ ((order : OrderValue) × GivesOut old order × (new ≡ with_turn (without_turn (TakeWork 0)) old))

-- so many buckets are worked, one after the other
abbrev pub WorksTimes : ServerState → ℕ → ServerState → Type 0
WorksTimes old zero new = new ≡ old
WorksTimes old (suc count) new =
    (mid : ServerState) × WorksTimes old count mid × (0 < left_of mid) × WorksBucket mid new

-- buckets are worked until none is to be checked, at most so many
pub record WorksUpTo (most : ℕ) (old new : ServerState) : Type 0 where
  pub count : ℕ
  pub worked : WorksTimes old count new
  pub few : count ≤ most
  pub rest : count < most → left_of new ≡ 0

-- the same, which stopped before it was done
pub record WorksLess (most : ℕ) (old new : ServerState) : Type 0 where
  pub count : ℕ
  pub mid : ServerState
  pub worked : WorksTimes old count mid
  pub room : count < most
  pub some : 0 < left_of mid
  pub part : WorksPart mid new

-- buckets are worked until none is to be checked, at most so many where so many are said
pub record WorksAll (buckets : Option ℕ) (old new : ServerState) : Type 0 where
  pub count : ℕ
  pub worked : WorksTimes old count new
  pub enough : IsEnough buckets count (left_of new)

-- the same, which stopped before it was done
pub record WorksSome (buckets : Option ℕ) (old new : ServerState) : Type 0 where
  pub count : ℕ
  pub mid : ServerState
  pub worked : WorksTimes old count mid
  pub room : IsMore buckets count
  pub some : 0 < left_of mid
  pub part : WorksPart mid new
