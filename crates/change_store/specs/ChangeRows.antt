-- Changes as rows of a table.
use Rattle.std.specs.Prelude.{◌≡◌, ◌<◌, ◌^◌, ℕ, pos, List, [], ◌∷◌, ◌++◌, map, take, codes, Option, option_map, ⊤}
use Rattle.sqlite_value.specs.declared.value.Value.TheVariants.{Null, Int, Text, Blob}
use Rattle.sqlite_value.specs.Order.{Row, column, bytes}
use Rattle.sqlite_trees.specs.Tree.{Trees, IsAscending}
use Rattle.sqlite_trees.specs.Objects.{catalog_tree, number_in}

-- an accepted change: the turn in which it was made, the project that it is of, and its bytes
pub record StoredChange : Type 0 where
  pub turn : ℕ
  pub project : ℕ
  pub bytes : List ℕ

-- a change of these three
abbrev pub change_of : ℕ → ℕ → List ℕ → StoredChange
change_of turn project bytes = record { turn = turn; project = project; bytes = bytes }

-- the row of a change: its key, which is the turn, then the columns turn (NULL, as SQLite keeps a key), project and entry
abbrev pub row_of : StoredChange → Row
row_of c = Int (pos c.turn) ∷ Null ∷ Int (pos c.project) ∷ Blob c.bytes ∷ []

-- the change that a row tells, if it tells one
abbrev pub told_by : Row → StoredChange
told_by row = change_of (number_in (column row 0)) (number_in (column row 2)) (bytes (column row 3))

-- the changes of these rows
abbrev pub changes_in : List Row → List StoredChange
changes_in rows = map told_by rows

-- the text by which SQLite makes the table
abbrev pub table_text : List ℕ
table_text =
    codes "CREATE TABLE change (turn INTEGER PRIMARY KEY, project INTEGER NOT NULL, entry BLOB NOT NULL)"

-- the table's line in SQLite's list of tables: its number, type, name, table and text
abbrev pub table_line : Row
table_line =
    Int (pos 1) ∷ Text (codes "table") ∷ Text (codes "change") ∷ Text (codes "change") ∷ Text table_text ∷ []

-- what a reader has taken after these too, if it tells what it took
abbrev pub taken_after : Option (List StoredChange) → List StoredChange → Option (List StoredChange)
taken_after taken changes = option_map (λ done. done ++ changes) taken

-- a row of a change after that turn
pub record IsChangeAfter (last : ℕ) (row : Row) : Type 0 where
  pub spelled : row ≡ row_of (told_by row)
  pub turn : last < (told_by row).turn
  pub project : (told_by row).project < 2 ^ 32

-- each turn is below each later one
abbrev pub HasRisingTurns : List StoredChange → Type 0
HasRisingTurns = IsAscending (λ a b. a.turn < b.turn)

-- each row is one of a change, after that turn and after the row before it
abbrev pub AreChangesAfter : ℕ → List Row → Type 0
AreChangesAfter last [] = ⊤
AreChangesAfter last (row ∷ rows) = IsChangeAfter last row × AreChangesAfter (told_by row).turn rows

-- the turn of the last row, or that turn if there is none
abbrev pub last_after : ℕ → List Row → ℕ
last_after last [] = last
last_after last (row ∷ rows) = last_after (told_by row).turn rows

-- the database has this table alone, and its rows are changes by rising turn
pub record IsOfChanges (db : Trees) : Type 0 where
  pub listed : map (take 5) (db catalog_tree) ≡ table_line ∷ []
  pub rows : AreChangesAfter 0 (db 0)
