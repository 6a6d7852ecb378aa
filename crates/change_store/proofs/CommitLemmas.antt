-- What a commit of one more row leaves.
use Rattle.std.proofs.Common.{◌≡◌, ◌<◌, ◌≤◌, ◌^◌, ℕ, Bool, false, Result, Ok, Err, OnOk, IfOk, IfErr, List, [], ◌∷◌, ◌++◌, length, map, take, refl, sym, ap, subst, ◌∙◌, true≢false, arith, IsTrue}
use Rattle.std.proofs.lemmas.List.Elements.{All-from_recursion}
use Rattle.std.proofs.lemmas.Nat.Bits.{bit_at-zero}
use Rattle.std.specs.Float.{NotNan}
use Rattle.std.specs.Float.Ieee
use Rattle.sqlite_disk.specs.Disk.{MoreFaults}
use Rattle.sqlite_value.specs.declared.value.Value.{Value}
use Rattle.sqlite_trees.specs.declared.error.StoreError.{StoreError}
use Rattle.sqlite_trees.specs.declared.error.StoreError.TheVariants.{OutOfMemory, Io, Corrupt, Full, Broken, Unstorable}
use Rattle.change_store.specs.Faults.{IsCauseOf, AppendCause, named_at_append}
use Rattle.sqlite_value.specs.Order.{Row, number}
use Rattle.sqlite_trees.specs.Tree.{Trees, put_row}
use Rattle.sqlite_trees.specs.Objects.{catalog_tree}
use Rattle.sqlite_trees.specs.View.{View, SetsTree, Commits, HasCause, IsStorableRow}
use Rattle.change_store.specs.ChangeRows.{StoredChange, row_of, IsChangeAfter, AreChangesAfter, last_after, IsOfChanges}
use Rattle.change_store.specs.StoreReads.{IsReady}
use Rattle.change_store.proofs.RowLemmas.{put_last, one_more, last_of_more}

-- the row of a later change is one after the last
is_after : (last : ℕ) (c : StoredChange) → last < c.turn → c.project < 2 ^ 32 → IsChangeAfter last (row_of c)
is_after last c later small = record { spelled = refl; turn = later; project = small }

-- behind a put the table has one row more
pub rows_put : (v0 v1 : View) (last : ℕ) (c : StoredChange) (row : Row) → row ≡ row_of c → last < c.turn → IsReady v0 last → SetsTree v0 v1 0 (put_row row)
    → v1.trees 0 ≡ v0.committed 0 ++ row_of c ∷ []
rows_put v0 v1 last c row filled later ready sets =
    ap (λ (v : View). v.trees 0) sets.is ∙ ap (λ (r : Row). put_row r (v0.trees 0)) filled
    ∙ ap (λ (rows : List Row). put_row (row_of c) rows) (ap (λ (t : Trees). t 0) ready.settled.settled)
    ∙ put_last 0 c (v0.committed 0) ready.rows (subst (λ (n : ℕ). n < c.turn) ready.greatest later)

-- and is one of changes
pub trees_put : (v0 v1 : View) (last : ℕ) (c : StoredChange) (row : Row) → row ≡ row_of c → last < c.turn → c.project < 2 ^ 32 → IsReady v0 last → SetsTree v0 v1 0 (put_row row)
    → IsOfChanges v1.trees
trees_put v0 v1 last c row filled later small ready sets = record {
  listed = ap (λ (v : View). map (take 5) (v.trees catalog_tree)) sets.is ∙ ready.table.listed;
  rows = subst (λ (rows : List Row). AreChangesAfter 0 rows) (sym (rows_put v0 v1 last c row filled later ready sets))
      (one_more 0 (v0.committed 0) (row_of c) ready.rows (is_after _ c (subst (λ (n : ℕ). n < c.turn) ready.greatest later) small));
}

-- behind the commit it is ready again
pub ready_again : (v0 v1 n : View) (last : ℕ) (c : StoredChange) (row : Row) → row ≡ row_of c → last < c.turn → c.project < 2 ^ 32 → IsReady v0 last → SetsTree v0 v1 0 (put_row row)
    → Commits v1 n → IsReady n c.turn
ready_again v0 v1 n last c row filled later small ready sets committed_by =
    let trees = trees_put v0 v1 last c row filled later small ready sets in
    let same : n.committed ≡ v1.trees = ap (λ (v : View). v.committed) committed_by.is in record {
      settled = record {
        is_open = subst IsTrue (sym (ap (λ (v : View). v.is_open) committed_by.is ∙ ap (λ (v : View). v.is_open) sets.is)) ready.settled.is_open;
        sound = ap (λ (v : View). v.is_broken) committed_by.is ∙ committed_by.sound;
        settled = ap (λ (v : View). v.trees) committed_by.is ∙ sym same;
      };
      table = record {
        listed = ap (λ (v : View). map (take 5) (v.trees catalog_tree)) committed_by.is ∙ trees.listed;
        shape = ap (λ (v : View). v.shape 0) committed_by.is ∙ ap (λ (v : View). v.shape 0) sets.is ∙ ready.table.shape;
        plain = ap (λ (v : View). v.reals 0) committed_by.is ∙ ap (λ (v : View). v.reals 0) sets.is ∙ ready.table.plain;
      };
      rows = subst (λ (db : Trees). AreChangesAfter 0 (db 0)) (sym same) trees.rows;
      greatest = sym (ap (λ (db : Trees). last_after 0 (db 0)) same ∙ ap (last_after 0) (rows_put v0 v1 last c row filled later ready sets) ∙ last_of_more 0 (v0.committed 0) (row_of c));
    }

pub rows_committed : (v0 v1 n : View) (last : ℕ) (c : StoredChange) (row : Row) → row ≡ row_of c → last < c.turn → IsReady v0 last → SetsTree v0 v1 0 (put_row row) → Commits v1 n
    → n.committed 0 ≡ v0.committed 0 ++ row_of c ∷ []
rows_committed v0 v1 n last c row filled later ready sets committed_by = ap (λ (v : View). v.committed 0) committed_by.is ∙ rows_put v0 v1 last c row filled later ready sets

pub on_ok : {A E P Q : Type 0} (r : Result A E) → (P → Q) → OnOk r P → OnOk r Q
on_ok (Ok x) f p = f p
on_ok (Err e) f p = tt

-- what is committed in a store that is ready is a database of changes
pub ready_changes : (v : View) (last : ℕ) → IsReady v last → IsOfChanges v.committed
ready_changes v last ready = record {
  listed = ap (λ (db : Trees). map (take 5) (db catalog_tree)) (sym ready.settled.settled) ∙ ready.table.listed;
  rows = ready.rows;
}

-- a row of a change can be stored
pub row_storable : (c : StoredChange) → length c.bytes ≤ 2 ^ 29 → IsStorableRow 0 (row_of c)
unfolding Ieee.is_nan
row_storable c short =
    let P = λ (x : Value). NotNan (number x) in (
      record {
        typed = λ k set. absurd (let zero = bit_at-zero k in omega arith);
        columns = (omega arith, omega arith);
        numbers = All-from_recursion P (row_of c) (tt, (tt, (tt, (tt, tt))));
        short = omega arith;
      },
      omega arith,
    )

-- why a call on an open store fails
pub append_cause : (v : View) (a b d : ℕ) (U : Type 0) (e : StoreError) → v.is_broken ≡ false → a ≤ b → (U → ⊥) → HasCause v (MoreFaults b d) U e → IsCauseOf (MoreFaults a d) e
append_cause v a b d U OutOfMemory sound up none h = tt
append_cause v a b d U Io sound up none h = omega arith
append_cause v a b d U Corrupt sound up none h = omega arith
append_cause v a b d U Full sound up none h = omega arith
append_cause v a b d U Broken sound up none h = absurd (true≢false (sym h ∙ sound))
append_cause v a b d U Unstorable sound up none h = absurd (none h)

pub on_err : {A E : Type 0} {P Q : E → Type 0} (r : Result A E) → ((e : E) → P e → Q e) → IfErr r P → IfErr r Q
on_err (Ok x) f p = tt
on_err (Err e) f p = f e p

pub on_if_ok : {A E : Type 0} {P Q : A → Type 0} (r : Result A E) → ((x : A) → P x → Q x) → IfOk r P → IfOk r Q
on_if_ok (Ok x) f p = f x p
on_if_ok (Err e) f p = tt

-- a put leaves the transaction as sound as it was
pub sound_after : (v0 v1 : View) (row : Row) → SetsTree v0 v1 0 (put_row row) → v0.is_broken ≡ false → v1.is_broken ≡ false
sound_after v0 v1 row sets sound = ap (λ (v : View). v.is_broken) sets.is ∙ sound

-- the cause of a fault by its name
pub named_cause : (a b : ℕ) (sealed : Bool) (e : StoreError) → IsCauseOf (MoreFaults a b) e → AppendCause a b sealed (named_at_append e)
named_cause a b sealed OutOfMemory h = tt
named_cause a b sealed Io h = h
named_cause a b sealed Corrupt h = h
named_cause a b sealed Full h = h
named_cause a b sealed Broken h = h
named_cause a b sealed Unstorable h = h

-- the fault of a result, or this one
fault_in : {A E : Type 0} → E → Result A E → E
fault_in other (Ok x) = other
fault_in other (Err e) = e

-- a fault that is handed on is the same
pub handed_on : {A B E : Type 0} (e x : E) → ◌≡◌ {A = Result A E} (Err e) (Err x) → ◌≡◌ {A = Result B E} (Err e) (Err x)
unfolding fault_in
handed_on e x is = ap Err (ap (fault_in e) is)
