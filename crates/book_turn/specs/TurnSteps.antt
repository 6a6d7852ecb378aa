-- What each step on the table tells the pass that makes it, and what a whole call and a join tell.
use Rattle.std.specs.Prelude.{ℕ, ◌≡◌, ◌≢◌, ◌<◌, ◌≤◌, ◌+◌, ◌^◌, List, [], ◌∷◌, ◌++◌, true, Option, None, Some, Result, Ok, Err}
use Rattle.std.specs.declared.alloc.AllocError.{AllocError}
use Rattle.book_turn.specs.declared.object.Stamp.{Stamp}
use Rattle.atomic_table.specs.Table.{Me, Step}
use Rattle.book_turn.specs.declared.rule.View.{View}
use Rattle.book_turn.specs.declared.rule.Beginning.{Beginning}
use Rattle.book_turn.specs.NumberLists.{times, has}
use Rattle.book_turn.specs.Entries.{AllBefore, AllAfter, Rises, up_to, calls_by, listed, IsOneOf, OwnUpTo}
use Rattle.book_turn.specs.PassViews.{awaited, drawn_view, called_view, done_view, compared_view, both_views}

module _ {O E S : Type 0} where
  -- a turn was drawn, which comes after all that the pass has taken
  abbrev pub drew : Step (Option O) → Me (Option O) (View E S) → ℕ → Me (Option O) (View E S) → Type 0
  drew st m t m' = (m' ≡ (drawn_view m.0 t, m.1)) × (m.0.last < t) × (t < 2 ^ 47)

-- the journal of the object that may be in the slot
abbrev pub journal_of : {O E : Type 0} → (O → List E) → Option O → List E
journal_of journal None = []
journal_of journal (Some o) = journal o

-- and of the one that the seat holds
abbrev pub journal_in : {O E : Type 0} → (O → List E) → List (ℕ × Option O) → List E
journal_in journal [] = []
journal_in journal (x ∷ xs) = journal_of journal x.1

module _ {O E S : Type 0} (journal : O → List E) where
  -- the slot has the object again, and what is in it has been seen
  abbrev pub passed : Step (Option O) → Me (Option O) (View E S) → ℕ → Me (Option O) (View E S) → Type 0
  passed st m r m' = m' ≡ (done_view m.0 (journal_in journal m.1), [])

module _ {E : Type 0} (turn pass : E → ℕ) where
  -- these are the entries of the list up to their turns, which are at most t, and their passes, among ps, made none of the others
  abbrev pub AreBeginnings : List ℕ → List (Beginning E) → ℕ → List E → Type 0
  AreBeginnings ps [] t h = Unit {0}
  AreBeginnings ps (b ∷ bs) t h =
      ((b.seen ≡ up_to turn b.last h) × (b.last ≤ t) × ((x : ℕ) → has x b.passes ≡ true → has x ps ≡ true)
      × OwnUpTo turn pass b.passes b.last h) × AreBeginnings ps bs t h

module _ {E S : Type 0} (turn pass : E → ℕ) where
  -- both have seen beginnings of one list, the longer of which is kept, and no turn was taken by both
  pub record Glued (v w both : View E S) : Type 0 where
    pub joined : both ≡ compared_view (both_views v w)
    pub first : v.seen ≡ up_to turn v.last both.seen
    pub second : w.seen ≡ up_to turn w.last both.seen
    pub own_first : OwnUpTo turn pass v.passes v.last both.seen
    pub own_second : OwnUpTo turn pass w.passes w.last both.seen
    pub once : (x : ℕ) → times x v.turns + times x w.turns ≤ 1

module _ {O E S : Type 0} (turn pass : E → ℕ) where
  -- the seen lists of those that were joined are beginnings of what is seen, and no turn was taken twice
  abbrev pub compared : Step (Option O) → Me (Option O) (View E S) → ℕ → Me (Option O) (View E S) → Type 0
  compared st m r m' = (m' ≡ (compared_view m.0, m.1))
      × AreBeginnings turn pass m.0.passes m.0.begins m.0.last m.0.seen × ((x : ℕ) → times x m.0.turns ≤ 1)

module _ {O E S : Type 0} (journal : O → List E) (settings : O → S) (turn pass : E → ℕ) where
  -- the turn t has come: the entries up to it are seen, and the object is at hand
  abbrev pub Comes : ℕ → Me (Option O) (View E S) → Me (Option O) (View E S) → Type 0
  Comes t m m' =
      (o : O) × (news : List E)
      × (m' ≡ (called_view m.0 t (m.0.seen ++ news), (0, Some o) ∷ []))
      × (journal o ≡ m.0.seen ++ news) × (m.0.settings ≡ Some (settings o))
      × AllAfter turn m.0.last news × AllBefore turn t (m.0.seen ++ news)
      × (calls_by pass m.0.passes news ≡ []) × Rises turn (m.0.seen ++ news)

  -- nothing changed, or the turn has come
  abbrev pub looked : Step (Option O) → Me (Option O) (View E S) → ℕ → Me (Option O) (View E S) → Type 0
  looked st m r m' = (r ≢ awaited m.0.stage → m' ≡ m) × (r ≡ awaited m.0.stage → Comes r m m')

  -- the object's journal is what was seen, and at most one entry more, of the turn t and the pass
  abbrev pub Adds : ℕ → O → View E S → Type 0
  Adds t o v = (v.settings ≡ Some (settings o)) × (news : List E) × (journal o ≡ v.seen ++ news)
      × IsOneOf turn pass t v.passes news

module _ {E S Rq Rp : Type 0} (reply_of : S → List E → Stamp → Rq → Rp)
    (added_by : S → List E → Stamp → Rq → Option E) where
  -- a call was answered at what was seen, and its entry seen after that; or there was no memory, and nothing was added
  abbrev pub Serves : Stamp → Rq → View E S → View E S → Result Rp AllocError → Type 0
  Serves stamp request v w (Ok reply) = (s : S) × (v.settings ≡ Some s)
      × (reply ≡ reply_of s v.seen stamp request)
      × (w ≡ done_view v (v.seen ++ listed (added_by s v.seen stamp request)))
  Serves stamp request v w (Err e) = w ≡ done_view v v.seen

-- a turn t was taken by the pass of this number, for its call of this number
pub record TakesTurn {E S Rq Rp : Type 0} (stamp_of : E → Stamp) (reply_of : S → List E → Stamp → Rq → Rp)
    (added_by : S → List E → Stamp → Rq → Option E) (t number call : ℕ) (request : Rq) (v w : View E S)
    (res : Result Rp AllocError) : Type 0 where
  pub news : List E
  pub later : v.last < t
  pub within : t < 2 ^ 47
  pub since : AllAfter (λ e. (stamp_of e).turn) v.last news
  pub before : AllBefore (λ e. (stamp_of e).turn) t (v.seen ++ news)
  pub others : calls_by (λ e. (stamp_of e).pass) v.passes news ≡ []
  pub rises : Rises (λ e. (stamp_of e).turn) (v.seen ++ news)
  pub served : Serves reply_of added_by (record { turn = t; pass = number; call = call }) request
      (called_view (drawn_view v t) t (v.seen ++ news)) w res
