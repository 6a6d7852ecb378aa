-- What a store of changes shows.
use Rattle.std.specs.Prelude.{◌≡◌, ◌≤◌, ℕ, Bool, false, List, refl}
use Rattle.std.specs.Coded.{Coded, code_by, coded×, coded_ℕ, coded_bool}
use Rattle.sqlite_trees.specs.Tree.{Trees}
use Rattle.sqlite_trees.specs.View.{IsClean, doubt}
use Rattle.sqlite_trees.specs.declared.store.Store.{Ghosts}
use Rattle.change_store.specs.ChangeRows.{StoredChange, changes_in, IsOfChanges}
use Rattle.change_store.specs.StoreReads.{IsReady}

-- the database, the greatest turn of a change or 0, and whether a change was not committed
pub record StoreState (S : Type 0) : Type 0 where
  pub store : S
  pub last : ℕ
  pub sealed : Bool

-- how such a state is written as others
abbrev pub state_code : {S : Type 0} → Coded S → Coded (StoreState S)
state_code {S} store =
    code_by (S × (ℕ × Bool)) (coded× store (coded× coded_ℕ coded_bool)) (λ s. (s.store, (s.last, s.sealed)))
    (λ p. record { store = p.0; last = p.1.0; sealed = p.1.1 }) (λ _. refl)

module _ {S : Type 0} (g : Ghosts S) where
  -- the disk has given back what was written to it, as far as it was read
  abbrev pub IsHonest : StoreState S → Type 0
  IsHonest s = IsClean (g.view s.store)

  -- an honest store was honest before
  abbrev pub FallsOnly : StoreState S → StoreState S → Type 0
  FallsOnly old new = doubt (g.view old.store).is_clean ≤ doubt (g.view new.store).is_clean

  -- the changes that are committed
  abbrev pub held : StoreState S → List StoredChange
  held s = changes_in ((g.view s.store).committed 0)

  -- the next start may find these, after a crash at this moment
  abbrev pub MayFind : StoreState S → List StoredChange → Type 0
  MayFind s changes = (db : Trees) × g.recovers s.store db × (changes ≡ changes_in (db 0))

  -- how often the disk failed or refused
  abbrev pub disk_faults : StoreState S → ℕ
  disk_faults s = g.faults s.store

  -- it is ready for a change unless it is sealed, and each outcome of a crash is a database of changes
  pub record IsKept (s : StoreState S) : Type 0 where
    pub ready : IsHonest s → s.sealed ≡ false → IsReady (g.view s.store) s.last
    pub found : IsHonest s → (db : Trees) → g.recovers s.store db → IsOfChanges db
