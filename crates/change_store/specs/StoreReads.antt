-- A store that is open and shows what it committed.
use Rattle.std.specs.Prelude.{◌≡◌, ◌⊎◌, ℕ, false, List, [], ◌∷◌, map, take, Option, None, Some, IsTrue}
use Rattle.sqlite_value.specs.Order.{Row}
use Rattle.sqlite_exec.specs.Loops.{left_of}
use Rattle.sqlite_trees.specs.Tree.{Trees}
use Rattle.sqlite_trees.specs.Objects.{catalog_tree}
use Rattle.sqlite_trees.specs.View.{View}
use Rattle.sqlite_trees.specs.declared.store.Shape.TheVariants.{Absent, Table}
use Rattle.change_store.specs.ChangeRows.{StoredChange, told_by, changes_in, table_line, IsChangeAfter, AreChangesAfter, last_after, IsOfChanges}

-- nothing is written that isn't committed
pub record IsSettled (v : View) : Type 0 where
  pub is_open : IsTrue v.is_open
  pub sound : v.is_broken ≡ false
  pub settled : v.trees ≡ v.committed

-- the list of tables has the table of changes alone
pub record HasTable (v : View) : Type 0 where
  pub listed : map (take 5) (v.trees catalog_tree) ≡ table_line ∷ []
  pub shape : v.shape 0 ≡ Table
  pub plain : v.reals 0 ≡ 0

-- the list of tables is empty
pub record LacksTable (v : View) : Type 0 where
  pub unlisted : v.trees catalog_tree ≡ []
  pub absent : v.shape 0 ≡ Absent

-- it is settled, and its rows are changes, the last of that turn
pub record IsReady (v : View) (last : ℕ) : Type 0 where
  pub settled : IsSettled v
  pub table : HasTable v
  pub rows : AreChangesAfter 0 (v.committed 0)
  pub greatest : last ≡ last_after 0 (v.committed 0)

-- what a start finds in a database: the changes of its table, or none if it has no table yet
abbrev pub Begins : Trees → List StoredChange → Type 0
Begins db changes =
    (IsOfChanges db × (changes ≡ changes_in (db 0))) ⊎ ((db catalog_tree ≡ []) × (changes ≡ []))

-- the next row that the cursor has left is one of a change after that turn, and has this turn; or none is left
abbrev pub TellsNext : View → View → Row → ℕ → Option ℕ → Type 0
TellsNext old new row last None = left_of old 0 ≡ []
TellsNext old new row last (Some turn) =
    (left_of old 0 ≡ row ∷ left_of new 0) × IsChangeAfter last row × (turn ≡ (told_by row).turn)

-- the change that is told there
abbrev pub told_next : Row → Option ℕ → List StoredChange
told_next row None = []
told_next row (Some turn) = told_by row ∷ []

-- the next row is none of a change after that turn
abbrev pub RefusesNext : View → View → Row → ℕ → Type 0
RefusesNext old new row last = (left_of old 0 ≡ row ∷ left_of new 0) × (¬ IsChangeAfter last row)
