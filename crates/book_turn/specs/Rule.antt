-- The rule of a turn, which holds between any two steps: who has which number and which turn, what each pass has seen, and where the object is.
use Rattle.std.specs.Prelude.{ℕ, ◌≡◌, ◌⊎◌, ◌<◌, ◌≤◌, ◌+◌, ◌*◌, List, [], ◌∷◌, length, Option, Some}
use mathlib.Core.Option.{some, none}
use lib.ListN.{get_elem?}
use Rattle.atomic_table.specs.Table.{State}
use Rattle.book_turn.specs.declared.rule.View.{View}
use Rattle.book_turn.specs.declared.limits.TheConstants.{MOST_PASSES}
use Rattle.book_turn.specs.NumberLists.{times}
use Rattle.book_turn.specs.Entries.{AllBefore, Rises, up_to, OwnUpTo}
use Rattle.book_turn.specs.PassViews.{staged, IsCalled, IsInTurn}
use Rattle.book_turn.specs.TurnSteps.{AreBeginnings}

-- f of each, added up
abbrev pub total : {A : Type 0} → (A → ℕ) → List A → ℕ
total f [] = 0
total f (x ∷ xs) = f x + total f xs

module _ {O E S : Type 0} (journal : O → List E) (settings : O → S) (turn pass : E → ℕ) (n : ℕ)
    (chosen : S) where
  -- what the rule says of a view that has a pass
  pub record Stands (history : List E) (serving : ℕ) (v : View E S) : Type 0 where
    pub same : v.settings ≡ Some chosen
    pub seen : v.seen ≡ up_to turn v.last history
    pub own : OwnUpTo turn pass v.passes v.last history
    pub in_turn : IsInTurn serving v.last v.stage
    pub begins : AreBeginnings turn pass v.passes v.begins v.last history

  -- what the rule says of one view. One that was joined away has no pass
  pub record Fits (history : List E) (serving : ℕ) (v : View E S) : Type 0 where
    pub few : length v.turns ≤ 1099511627776 * length v.passes
    pub named : IsCalled v.stage → 0 < length v.passes
    pub stands : 0 < length v.passes → Stands history serving v

  -- no pass is at its turn
  abbrev pub NobodyIsCalled : List (View E S) → Type 0
  NobodyIsCalled views = (j : ℕ) (v : View E S) → get_elem? views j ≡ some v → IsCalled v.stage → ⊥

  -- the object lies in the slot, or one view is called and has it
  abbrev pub Placed : List E → List (mathlib.Core.Option.Option (Option O)) → List (View E S) → Type 0
  Placed history homes views =
      ((o : O) × (homes ≡ some (Some o) ∷ []) × (journal o ≡ history) × (settings o ≡ chosen)
      × NobodyIsCalled views)
      ⊎ ((j : ℕ) × (v : View E S) × (get_elem? views j ≡ some v) × IsCalled v.stage × (homes ≡ none ∷ []))

  -- the rule of a turn with n passes, whose object has the chosen settings
  pub record Kept (s : State (Option O) (View E S)) : Type 0 where
    -- all entries that were ever added
    pub history : List E
    -- the words are the turn that is drawn next and the one that is served
    pub ticket : ℕ
    pub serving : ℕ
    pub words : s.words ≡ ticket ∷ serving ∷ []
    pub starts : 0 < serving
    pub in_order : serving ≤ ticket
    pub most : n ≤ MOST_PASSES
    -- there are as many drawn turns as the ticket says, and n passes
    pub counted : total (λ v. length v.turns) s.views + 1 ≡ ticket
    pub numbered : total (λ v. length v.passes) s.views ≡ n
    -- each number below n is a pass of one view
    pub numbers : (x : ℕ) → x < n → total (λ v. times x v.passes) s.views ≡ 1
    pub no_numbers : (x : ℕ) → n ≤ x → total (λ v. times x v.passes) s.views ≡ 0
    -- each turn was taken by one view, and none from the ticket on
    pub turns : (x : ℕ) → total (λ v. times x v.turns) s.views ≤ 1
    pub no_turns : (x : ℕ) → ticket ≤ x → total (λ v. times x v.turns) s.views ≡ 0
    -- the same of the turns that are waited for or served
    pub stages : (x : ℕ) → total (λ v. staged x v.stage) s.views ≤ 1
    pub no_stages : (x : ℕ) → ticket ≤ x → total (λ v. staged x v.stage) s.views ≡ 0
    -- what each view knows is so
    pub each : (j : ℕ) (v : View E S) → get_elem? s.views j ≡ some v → Fits history serving v
    pub placed : Placed history s.homes s.views
    -- the history rises in turn, up to the turn that is served, and has entries of the n passes alone
    pub rises : Rises turn history
    pub before : AllBefore turn serving history
    pub known : AllBefore pass n history
