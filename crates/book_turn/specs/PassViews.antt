-- What a pass knows, and how its knowledge changes. Nothing here is there when the program runs.
use Rattle.std.specs.Prelude.{ℕ, ◌≡◌, ◌<◌, max, List, [], ◌∷◌, ◌++◌, None, Some, if◌then◌else◌, ltb}
use Rattle.book_turn.specs.declared.rule.View.{View}
use Rattle.book_turn.specs.declared.rule.Beginning.{Beginning}
use Rattle.book_turn.specs.declared.rule.Stage.{Stage}
use Rattle.book_turn.specs.declared.rule.Stage.TheVariants.{Free, Waiting, Called}
use Rattle.book_turn.specs.NumberLists.{same, numbers_from, first_only, all_but_first}

-- 1 where the turn x is waited for or served, and else 0
abbrev pub staged : ℕ → Stage → ℕ
staged x Free = 0
staged x (Waiting t) = same x t
staged x (Called t) = same x t

-- the turn that is waited for
abbrev pub awaited : Stage → ℕ
awaited Free = 0
awaited (Waiting t) = t
awaited (Called t) = t

-- it is at its turn
abbrev pub IsCalled : Stage → Type 0
IsCalled Free = ⊥
IsCalled (Waiting t) = ⊥
IsCalled (Called t) = Unit {0}

-- a pass that is called has the turn that is served, and has seen what there is up to it. Any other has seen what there is up to an earlier turn
abbrev pub IsInTurn : ℕ → ℕ → Stage → Type 0
IsInTurn serving last Free = last < serving
IsInTurn serving last (Waiting t) = last < serving
IsInTurn serving last (Called t) = (t ≡ serving) × (last ≡ serving)

module _ {E S : Type 0} where
  -- it has n numbers from a on, and has seen nothing
  abbrev pub dealt_view : S → ℕ → ℕ → View E S
  dealt_view chosen a n = record {
    settings = Some chosen;
    passes = numbers_from a n;
    seen = [];
    last = 0;
    turns = [];
    begins = [];
    stage = Free;
  }

  -- at first one view has all numbers
  abbrev pub first_view : S → ℕ → View E S
  first_view chosen n = dealt_view chosen 0 n

  -- of a split, what stays: all numbers but the first
  abbrev pub kept_view : View E S → View E S
  kept_view v = record {
    settings = v.settings;
    passes = all_but_first v.passes;
    seen = v.seen;
    last = v.last;
    turns = v.turns;
    begins = [];
    stage = v.stage;
  }

  -- and what the new seat gets: the first number
  abbrev pub given_view : View E S → View E S
  given_view v = record {
    settings = v.settings;
    passes = first_only v.passes;
    seen = v.seen;
    last = v.last;
    turns = [];
    begins = [];
    stage = Free;
  }

  -- the turn t was drawn
  abbrev pub drawn_view : View E S → ℕ → View E S
  drawn_view v t = record {
    settings = v.settings;
    passes = v.passes;
    seen = v.seen;
    last = v.last;
    turns = t ∷ v.turns;
    begins = [];
    stage = Waiting t;
  }

  -- the turn t has come, and these entries are seen
  abbrev pub called_view : View E S → ℕ → List E → View E S
  called_view v t seen = record {
    settings = v.settings;
    passes = v.passes;
    seen = seen;
    last = t;
    turns = v.turns;
    begins = [];
    stage = Called t;
  }

  -- the object is back, and these entries are seen
  abbrev pub done_view : View E S → List E → View E S
  done_view v seen = record {
    settings = v.settings;
    passes = v.passes;
    seen = seen;
    last = v.last;
    turns = v.turns;
    begins = [];
    stage = Free;
  }

  -- what was seen up to now
  abbrev pub begun : View E S → Beginning E
  begun v = record { passes = v.passes; seen = v.seen; last = v.last }

  -- what two know together. Until it is compared, what each had seen is kept
  abbrev pub both_views : View E S → View E S → View E S
  both_views v w = record {
    settings = v.settings;
    passes = v.passes ++ w.passes;
    seen = (if ltb v.last w.last then w.seen else v.seen);
    last = max v.last w.last;
    turns = v.turns ++ w.turns;
    begins = begun v ∷ begun w ∷ [];
    stage = Free;
  }

  -- what both had seen was compared
  abbrev pub compared_view : View E S → View E S
  compared_view v = record {
    settings = v.settings;
    passes = v.passes;
    seen = v.seen;
    last = v.last;
    turns = v.turns;
    begins = [];
    stage = v.stage;
  }

  -- one that was joined into another knows nothing any more
  abbrev pub spent_view : View E S
  spent_view = record {
    settings = None;
    passes = [];
    seen = [];
    last = 0;
    turns = [];
    begins = [];
    stage = Free;
  }
