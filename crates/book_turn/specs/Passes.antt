-- What a caller sees of a turn and of its passes.
use Rattle.std.specs.Prelude.{ℕ, zero, suc, if◌then◌else◌, ltb, max, ◌≡◌, ◌<◌, ◌≤◌, ◌+◌, ◌*◌, List, [], ◌∷◌, ◌++◌, length, true, Option, Some}
use Rattle.atomic_table.specs.Seated.{TableId}
use Rattle.atomic_table.specs.declared.shared.Seat.{Seat}
use Rattle.book_turn.specs.declared.rule.View.{View}
use Rattle.book_turn.specs.declared.rule.Stage.TheVariants.{Free}
use Rattle.book_turn.specs.declared.object.Stamp.{Stamp}
use Rattle.book_turn.specs.declared.limits.TheConstants.{MOST_TURNS}
use Rattle.book_turn.specs.NumberLists.{has, times, greatest}
use Rattle.book_turn.specs.Entries.{listed, AllBefore, AllAfter, Rises, up_to, calls_by, OwnUpTo}

-- which turn it is
abbrev pub TurnId : Type 0
TurnId = TableId

-- a turn: which one, the settings of its object, and how many passes it has
pub record TurnState (S : Type 0) : Type 0 where
  pub turn_id : TurnId
  pub settings : S
  pub passes : ℕ

-- a pass
pub record PassState (E S : Type 0) : Type 0 where
  -- the turn that it was made with, and that turn's settings
  pub turn_id : TurnId
  pub settings : Option S
  -- its number, and its number with those of the passes that were joined into it
  pub number : ℕ
  pub numbers : List ℕ
  -- the entries that it has seen: those up to the last turn that was taken
  pub seen : List E
  pub last : ℕ
  -- the turns that it and the joined passes have taken, and how many of these it took itself
  pub turns : List ℕ
  pub made : ℕ

module _ {E S : Type 0} where
  -- the pass was made with this turn
  pub record BelongsTo (t : TurnState S) (v : PassState E S) : Type 0 where
    pub id : v.turn_id ≡ t.turn_id
    pub settings : v.settings ≡ Some t.settings

  -- a pass of this turn into which no other was joined
  pub record IsSingle (t : TurnState S) (v : PassState E S) : Type 0 where
    pub own : BelongsTo t v
    pub alone : v.numbers ≡ v.number ∷ []

  -- a pass that has seen nothing and taken no turn
  abbrev pub new_pass : TurnState S → ℕ → PassState E S
  new_pass t number = record {
    turn_id = t.turn_id;
    settings = Some t.settings;
    number = number;
    numbers = number ∷ [];
    seen = [];
    last = 0;
    turns = [];
    made = 0;
  }

  -- such passes with the numbers a, a + 1 .., n of them
  abbrev pub new_passes : TurnState S → ℕ → ℕ → List (PassState E S)
  new_passes t a zero = []
  new_passes t a (suc n) = new_pass t a ∷ new_passes t (suc a) n

  -- the number of a pass, and which passes were joined into it, stay
  pub record KeepsNumbers (v w : PassState E S) : Type 0 where
    pub number : w.number ≡ v.number
    pub numbers : w.numbers ≡ v.numbers

  module _ (stamp_of : E → Stamp) where
    -- a pass takes the turn t. It comes to see all entries with earlier turns; those that are new to it, `news`, are by other passes
    pub record Takes (t : ℕ) (news : List E) (v w : PassState E S) : Type 0 where
      pub later : v.last < t
      pub room : v.made < MOST_TURNS
      pub last : w.last ≡ t
      pub turns : w.turns ≡ t ∷ v.turns
      pub made : w.made ≡ v.made + 1
      pub since : AllAfter (λ e. (stamp_of e).turn) v.last news
      pub before : AllBefore (λ e. (stamp_of e).turn) t (v.seen ++ news)
      pub rises : Rises (λ e. (stamp_of e).turn) (v.seen ++ news)
      pub others : calls_by (λ e. (stamp_of e).pass) v.numbers news ≡ []

    -- a call is answered in the turn t: as the object answers where its journal is the entries with earlier turns. The call's own entry, if it has one, comes after them
    pub record Answered {Rq Rp : Type 0} (reply_of : S → List E → Stamp → Rq → Rp)
        (added_by : S → List E → Stamp → Rq → Option E) (chosen : S) (t : ℕ) (request : Rq) (reply : Rp)
        (v w : PassState E S) : Type 0 where
      pub news : List E
      pub takes : Takes t news v w
      pub replied : reply ≡ reply_of chosen (v.seen ++ news)
          (record { turn = t; pass = v.number; call = v.made + 1 }) request
      pub seen : w.seen ≡ (v.seen ++ news)
          ++ listed (added_by chosen (v.seen ++ news)
          (record { turn = t; pass = v.number; call = v.made + 1 }) request)

    -- a turn is taken, and nothing is added
    pub record GotNothing (v w : PassState E S) : Type 0 where
      pub turn : ℕ
      pub news : List E
      pub takes : Takes turn news v w
      pub seen : w.seen ≡ v.seen ++ news

    -- the pass has seen the entries of a history up to its last turn, and made none of a later turn
    pub record HasSeen (history : List E) (v : PassState E S) : Type 0 where
      pub seen : v.seen ≡ up_to (λ e. (stamp_of e).turn) v.last history
      pub own : OwnUpTo (λ e. (stamp_of e).turn) (λ e. (stamp_of e).pass) v.numbers v.last history

    -- what the one has seen is what the other has seen up to the last turn of the one, with all its own entries
    pub record IsFrontOf (v w : PassState E S) : Type 0 where
      pub seen : v.seen ≡ up_to (λ e. (stamp_of e).turn) v.last w.seen
      pub own : calls_by (λ e. (stamp_of e).pass) v.numbers w.seen
          ≡ calls_by (λ e. (stamp_of e).pass) v.numbers v.seen

    -- a pass takes in another. What both have seen are the beginnings of one list, up to the last turn of each, in which each has all its own calls; and no turn was taken twice
    pub record Joined (v other w : PassState E S) : Type 0 where
      pub numbers : w.numbers ≡ v.numbers ++ other.numbers
      pub turns : w.turns ≡ v.turns ++ other.turns
      pub last : w.last ≡ max v.last other.last
      pub seen : w.seen ≡ (if ltb v.last other.last then other.seen else v.seen)
      pub first : v.seen ≡ up_to (λ e. (stamp_of e).turn) v.last w.seen
      pub second : other.seen ≡ up_to (λ e. (stamp_of e).turn) other.last w.seen
      pub own_first : calls_by (λ e. (stamp_of e).pass) v.numbers w.seen
          ≡ calls_by (λ e. (stamp_of e).pass) v.numbers v.seen
      pub own_second : calls_by (λ e. (stamp_of e).pass) other.numbers w.seen
          ≡ calls_by (λ e. (stamp_of e).pass) other.numbers other.seen
      pub once : (x : ℕ) → times x v.turns + times x other.turns ≤ 1
      pub number : w.number ≡ v.number
      pub made : w.made ≡ v.made

module _ {O E S : Type 0} where
  -- what a pass shows, of what it is made of
  abbrev pub pass_state : Seat (Option O) (View E S) → ℕ → ℕ → PassState E S
  pass_state seat number made = record {
    turn_id = seat.table_id;
    settings = seat.me.0.settings;
    number = number;
    numbers = seat.me.0.passes;
    seen = seat.me.0.seen;
    last = seat.me.0.last;
    turns = seat.me.0.turns;
    made = made;
  }

  -- between its calls a pass holds nothing and waits for nothing, and it has made its own turns but for 2^40 of each pass that was joined into it
  pub record IsIdle (seat : Seat (Option O) (View E S)) (number made last : ℕ) : Type 0 where
    pub empty : seat.me.1 ≡ []
    pub free : seat.me.0.stage ≡ Free
    pub named : has number seat.me.0.passes ≡ true
    pub last_is : last ≡ seat.me.0.last
    pub greatest_is : last ≡ greatest seat.me.0.turns
    pub some_made : made ≤ 1099511627776
    pub few : length seat.me.0.turns + 1099511627776 ≤ made + 1099511627776 * length seat.me.0.passes
