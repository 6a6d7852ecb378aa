-- What an open makes and finds.
use Rattle.std.proofs.Common.{◌≡◌, ℕ, false, List, [], ◌∷◌, ◌++◌, Option, map, take, append_assoc, append-nil, refl, sym, ap, subst, ◌∙◌, inl, inr, IsTrue}
use Rattle.std.proofs.lemmas.Bool.{true_from_ne_false, both_ways}
use Rattle.sqlite_exec.specs.Calls.{OnlyReads}
use Rattle.sqlite_exec.specs.Loops.{left_of}
use Rattle.sqlite_exec.proofs.CheckLemmas.{placed, from_no_key}
use Rattle.sqlite_value.specs.declared.keys.Order.{Order}
use Rattle.sqlite_trees.specs.declared.store.Direction.TheVariants.{Forward}
use Rattle.sqlite_value.specs.Order.{Row}
use Rattle.sqlite_trees.specs.Tree.{Trees, sought, from_key}
use Rattle.sqlite_trees.specs.Objects.{catalog_tree, Creates, object_row}
use Rattle.sqlite_trees.specs.View.{View, Commits, IsClean, IsRolledBack, with_cursor}
use Rattle.sqlite_trees.specs.declared.schema.Object.{Object}
use Rattle.sqlite_trees.specs.declared.store.Shape.TheVariants.{Table}
use Rattle.change_store.specs.ChangeRows.{StoredChange, told_by, changes_in, taken_after, table_line, IsChangeAfter, AreChangesAfter, last_after, IsOfChanges}
use Rattle.change_store.specs.StoreReads.{IsSettled, HasTable, LacksTable, IsReady, Begins}
use Rattle.change_store.proofs.RowLemmas.{one_more, last_of_more, changes_of_more, in_the_middle, taken_twice, taken_none}

-- the trees with the new table, which has no row
pub table_made : (v0 v1 : View) (o : Object) → LacksTable v0 → o.shape ≡ Table → map (take 5) (object_row 0 o ∷ []) ≡ table_line ∷ [] → Creates v0 v1 0 o
    → IsOfChanges v1.trees × (v1.trees 0 ≡ [])
table_made v0 v1 o lacks shape line made =
    let none : v1.trees 0 ≡ [] = ap (λ (v : View). v.trees 0) made.is in (
      record {
        listed = ap (λ (v : View). map (take 5) (v.trees catalog_tree)) made.is ∙ ap (λ (rows : List Row). map (take 5) (Rattle.sqlite_trees.specs.Tree.put_row (object_row 0 o) rows)) lacks.unlisted ∙ line;
        rows = subst (λ (rows : List Row). AreChangesAfter 0 rows) (sym none) tt;
      },
      none,
    )

-- and once they are committed, it is ready
pub table_ready : (v0 v1 n : View) (o : Object) → LacksTable v0 → IsSettled v0 → o.shape ≡ Table → o.reals ≡ 0 → map (take 5) (object_row 0 o ∷ []) ≡ table_line ∷ [] → Creates v0 v1 0 o → Commits v1 n
    → IsReady n 0 × (n.committed 0 ≡ [])
table_ready v0 v1 n o lacks settled shape reals line made kept =
    let made_so = table_made v0 v1 o lacks shape line made in
    let same : n.committed ≡ v1.trees = ap (λ (v : View). v.committed) kept.is in
    let none : n.committed 0 ≡ [] = ap (λ (db : Trees). db 0) same ∙ made_so.1 in (
      record {
        settled = record {
          is_open = subst IsTrue (sym (ap (λ (v : View). v.is_open) kept.is ∙ ap (λ (v : View). v.is_open) made.is)) settled.is_open;
          sound = ap (λ (v : View). v.is_broken) kept.is ∙ kept.sound;
          settled = ap (λ (v : View). v.trees) kept.is ∙ sym same;
        };
        table = record {
          listed = ap (λ (v : View). map (take 5) (v.trees catalog_tree)) kept.is ∙ made_so.0.listed;
          shape = ap (λ (v : View). v.shape 0) kept.is ∙ ap (λ (v : View). v.shape 0) made.is ∙ shape;
          plain = ap (λ (v : View). v.reals 0) kept.is ∙ ap (λ (v : View). v.reals 0) made.is ∙ reals;
        };
        rows = subst (λ (rows : List Row). AreChangesAfter 0 rows) (sym none) tt;
        greatest = sym (ap (last_after 0) none);
      },
      none,
    )

-- what was told so far: some rows are done, and the others are left
abbrev pub Told : List Row → List Row → ℕ → Option (List StoredChange) → Option (List StoredChange) → Type 0
Told whole left last before now = (done : List Row) × (whole ≡ done ++ left) × AreChangesAfter 0 done × (last ≡ last_after 0 done) × (now ≡ taken_after before (changes_in done))

pub told_none : (left : List Row) (taken : Option (List StoredChange)) → Told left left 0 taken taken
told_none left taken = ([], refl, tt, refl, sym (taken_none taken))

pub told_more : (whole left rest : List Row) (row : Row) (last turn : ℕ) (before now later : Option (List StoredChange)) → Told whole left last before now → left ≡ row ∷ rest → IsChangeAfter last row
    → turn ≡ (told_by row).turn → later ≡ taken_after now (told_by row ∷ []) → Told whole rest turn before later
told_more whole left rest row last turn before now later told step is at takes =
    let done = told.0 in (
      done ++ row ∷ [],
      told.1 ∙ ap (λ (x : List Row). done ++ x) step ∙ sym (append_assoc done (row ∷ []) rest),
      one_more 0 done row told.2 (subst (λ (n : ℕ). IsChangeAfter n row) told.3 is),
      at ∙ sym (last_of_more 0 done row),
      takes ∙ ap (λ (x : Option (List StoredChange)). taken_after x (told_by row ∷ [])) told.4 ∙ taken_twice before (changes_in done) (told_by row ∷ []) ∙ ap (taken_after before) (sym (changes_of_more done row)),
    )

pub told_all : (whole left : List Row) (last : ℕ) (before now : Option (List StoredChange)) → Told whole left last before now → left ≡ []
    → AreChangesAfter 0 whole × (last ≡ last_after 0 whole) × (now ≡ taken_after before (changes_in whole))
told_all whole left last before now told end =
    let same : told.0 ≡ whole = sym (told.1 ∙ ap (λ (x : List Row). told.0 ++ x) end ∙ append-nil told.0) in (
      subst (AreChangesAfter 0) same told.2,
      told.3 ∙ ap (last_after 0) same,
      told.4 ∙ ap (λ (x : List Row). taken_after before (changes_in x)) same,
    )

pub told_bad : (whole left rest : List Row) (row : Row) (last : ℕ) (before now : Option (List StoredChange)) → Told whole left last before now → left ≡ row ∷ rest → (IsChangeAfter last row → ⊥)
    → AreChangesAfter 0 whole → ⊥
told_bad whole left rest row last before now told step none all =
    none (subst (λ (n : ℕ). IsChangeAfter n row) (sym told.3) (in_the_middle 0 told.0 row rest (subst (AreChangesAfter 0) (told.1 ∙ ap (λ (x : List Row). told.0 ++ x) step) all)))

-- reading twice is reading
pub reads_on : (a b d : View) → OnlyReads a b → OnlyReads b d → OnlyReads a d
reads_on a b d first second = second ∙ ap (λ (v : View). record v { cursors = d.cursors }) first

-- a seek by no key finds all rows
pub sought_all : (v0 v1 : View) (o : Order) (key : Row) (es : List Row) → key ≡ [] → v1 ≡ with_cursor v0 0 (sought o Forward key es) → left_of v1 0 ≡ es
sought_all v0 v1 o key es none is =
    ap (λ (v : View). left_of v 0) is ∙ placed v0 0 (sought o Forward key es) ∙ ap (λ (k : Row). from_key o k es) none ∙ from_no_key o es

-- what was read whole and is one of changes is ready
pub reads_ready : (old new : View) (last : ℕ) → IsSettled old → HasTable old → OnlyReads old new → AreChangesAfter 0 (old.trees 0) → last ≡ last_after 0 (old.trees 0) → IsReady new last
reads_ready old new last settled table reads rows at =
    let same : new.committed 0 ≡ old.trees 0 = ap (λ (v : View). v.committed 0) reads ∙ ap (λ (t : Trees). t 0) (sym settled.settled) in record {
      settled = record {
        is_open = subst IsTrue (sym (ap (λ (v : View). v.is_open) reads)) settled.is_open;
        sound = ap (λ (v : View). v.is_broken) reads ∙ settled.sound;
        settled = ap (λ (v : View). v.trees) reads ∙ settled.settled ∙ sym (ap (λ (v : View). v.committed) reads);
      };
      table = record {
        listed = ap (λ (v : View). map (take 5) (v.trees catalog_tree)) reads ∙ table.listed;
        shape = ap (λ (v : View). v.shape 0) reads ∙ table.shape;
        plain = ap (λ (v : View). v.reals 0) reads ∙ table.plain;
      };
      rows = subst (AreChangesAfter 0) (sym same) rows;
      greatest = at ∙ ap (last_after 0) (sym same);
    }

-- it was read whole, so what is committed is what was found
pub reads_same : (old new : View) → IsSettled old → OnlyReads old new → changes_in (old.trees 0) ≡ changes_in (new.committed 0)
reads_same old new settled reads = ap (λ (t : Trees). changes_in (t 0)) settled.settled ∙ sym (ap (λ (v : View). changes_in (v.committed 0)) reads)

pub reads_found : (old new : View) → IsSettled old → HasTable old → OnlyReads old new → AreChangesAfter 0 (old.trees 0) → Begins old.trees (changes_in (new.committed 0))
reads_found old new settled table reads rows = inl (record { listed = table.listed; rows = rows }, sym (reads_same old new settled reads))

pub made_found : (old new : View) → LacksTable old → new.committed 0 ≡ [] → Begins old.trees (changes_in (new.committed 0))
made_found old new lacks none = inr (lacks.unlisted, ap changes_in none)

-- a store that isn't broken is open
pub open_settled : (v : View) → (v.is_open ≡ false → IsTrue v.is_broken) → v.is_broken ≡ false → v.trees ≡ v.committed → IsSettled v
open_settled v shut sound settled = record { is_open = true_from_ne_false _ (λ closed. both_ways _ sound (shut closed)); sound = sound; settled = settled }

-- a store that was rolled back and isn't broken shows what was committed
pub undone_trees : (old new : View) → IsRolledBack old new → (new.is_open ≡ false → IsTrue new.is_broken) → new.is_broken ≡ false → new.trees ≡ old.committed
undone_trees old new undone shut sound = (undone.undone (true_from_ne_false _ (λ closed. both_ways _ sound (shut closed)))).0

pub undone_settled : (old new : View) → IsRolledBack old new → IsClean new → (new.is_open ≡ false → IsTrue new.is_broken) → new.is_broken ≡ false → new.trees ≡ new.committed
undone_settled old new undone clean shut sound =
    undone_trees old new undone shut sound ∙ sym ((undone.kept clean).committed (true_from_ne_false _ (λ closed. both_ways _ sound (shut closed))))
