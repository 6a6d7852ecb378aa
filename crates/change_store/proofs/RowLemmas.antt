-- Rows of changes, of which the last has the greatest turn.
use Rattle.std.proofs.Common.{◌≡◌, ◌<◌, ◌≤◌, ℕ, pos, List, [], ◌∷◌, ◌++◌, Option, Some, None, append_assoc, append-nil, refl, ap, ◌∙◌, arith, Less}
use Rattle.std.specs.List.{AllByRecursion}
use Rattle.std.proofs.lemmas.Int.{ints}
use Rattle.std.proofs.lemmas.Bool.Decides.{nat_tests}
use Rattle.sqlite_value.specs.declared.value.Value.TheVariants.{Int}
use Rattle.sqlite_value.specs.Order.{Row, value_cmp}
use Rattle.sqlite_value.proofs.OrderLemmas.{value_cmp-Int}
use Rattle.sqlite_trees.specs.Tree.{rowid, put_row}
use Rattle.change_store.specs.ChangeRows.{StoredChange, row_of, told_by, changes_in, taken_after, IsChangeAfter, AreChangesAfter, HasRisingTurns, last_after}

-- a lower turn is a lower key
lower_key : (m n : ℕ) → m < n → value_cmp (Int (pos m)) (Int (pos n)) ≡ Less
lower_key m n h = value_cmp-Int (pos m) (pos n) ∙ grind (arith, ints, nat_tests)

-- a row of a change has its turn as its key
key_of : (last : ℕ) (row : Row) → IsChangeAfter last row → rowid row ≡ Int (pos (told_by row).turn)
key_of last row is = ap rowid is.spelled

-- turns don't fall from row to row
pub not_below : (n : ℕ) (rows : List Row) → AreChangesAfter n rows → n ≤ last_after n rows
not_below n [] all = omega arith
not_below n (row ∷ rows) all = omega (arith, all.0.turn, not_below (told_by row).turn rows all.1)

-- the row of a later change goes behind the others
pub put_last : (n : ℕ) (c : StoredChange) (rows : List Row) → AreChangesAfter n rows → last_after n rows < c.turn → put_row (row_of c) rows ≡ rows ++ row_of c ∷ []
put_last n c [] all later = refl
put_last n c (row ∷ rows) all later =
    let below : (told_by row).turn < c.turn = omega (arith, not_below (told_by row).turn rows all.1) in
    rw (key_of n row all.0, lower_key (told_by row).turn c.turn below) (ap (λ (x : List Row). row ∷ x) (put_last (told_by row).turn c rows all.1 later))

-- one more row behind
pub one_more : (n : ℕ) (rows : List Row) (row : Row) → AreChangesAfter n rows → IsChangeAfter (last_after n rows) row → AreChangesAfter n (rows ++ row ∷ [])
one_more n [] row all is = (is, tt)
one_more n (first ∷ rows) row all is = (all.0, one_more (told_by first).turn rows row all.1 is)

pub last_of_more : (n : ℕ) (rows : List Row) (row : Row) → last_after n (rows ++ row ∷ []) ≡ (told_by row).turn
last_of_more n [] row = refl
last_of_more n (first ∷ rows) row = last_of_more (told_by first).turn rows row

pub changes_of_more : (rows : List Row) (row : Row) → changes_in (rows ++ row ∷ []) ≡ changes_in rows ++ told_by row ∷ []
changes_of_more [] row = refl
changes_of_more (first ∷ rows) row = ap (λ (x : List StoredChange). told_by first ∷ x) (changes_of_more rows row)

-- a row in the middle is one of a change after those before it
pub in_the_middle : (n : ℕ) (done : List Row) (row : Row) (left : List Row) → AreChangesAfter n (done ++ row ∷ left) → IsChangeAfter (last_after n done) row
in_the_middle n [] row left all = all.0
in_the_middle n (first ∷ done) row left all = in_the_middle (told_by first).turn done row left all.1

-- a reader that took some changes and then others took both
pub taken_twice : (taken : Option (List StoredChange)) (some more : List StoredChange) → taken_after (taken_after taken some) more ≡ taken_after taken (some ++ more)
taken_twice None some more = refl
taken_twice (Some done) some more = ap Some (append_assoc done some more)

pub taken_none : (taken : Option (List StoredChange)) → taken_after taken [] ≡ taken
taken_none None = refl
taken_none (Some done) = ap Some (append-nil done)

-- changes after some turn are above each lower one
all_above : (m n : ℕ) → m ≤ n → (rows : List Row) → AreChangesAfter n rows → AllByRecursion (λ (c : StoredChange). m < c.turn) (changes_in rows)
all_above m n low [] all = tt
all_above m n low (row ∷ rows) all = (omega (arith, all.0.turn), all_above m (told_by row).turn (omega (arith, all.0.turn)) rows all.1)

-- so their turns rise
pub rising : (n : ℕ) (rows : List Row) → AreChangesAfter n rows → HasRisingTurns (changes_in rows)
rising n [] all = tt
rising n (row ∷ rows) all = (all_above (told_by row).turn (told_by row).turn (omega arith) rows all.1, rising (told_by row).turn rows all.1)
