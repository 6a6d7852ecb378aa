-- Faults of a store, and their causes.
use Rattle.std.specs.Prelude.{◌≡◌, ℕ, Bool, true, ⊤}
use Rattle.sqlite_disk.specs.Disk.{MoreFaults}
use Rattle.sqlite_trees.specs.declared.error.StoreError.{StoreError}
use Rattle.sqlite_trees.specs.declared.error.StoreError.TheVariants as stored
use Rattle.change_store.specs.declared.store_faults.AppendFault.{AppendFault}
use Rattle.change_store.specs.declared.store_faults.AppendFault.TheVariants as append
use Rattle.change_store.specs.declared.store_faults.OpenFault.{OpenFault}
use Rattle.change_store.specs.declared.store_faults.OpenFault.TheVariants as opening

-- the name of a fault of the database where a change is added
abbrev pub named_at_append : StoreError → AppendFault
named_at_append stored.OutOfMemory = append.OutOfMemory
named_at_append stored.Full = append.Full
named_at_append _ = append.Failed

-- the same where a store is opened
abbrev pub named_at_open : StoreError → OpenFault
named_at_open stored.OutOfMemory = opening.OutOfMemory
named_at_open stored.Full = opening.Full
named_at_open _ = opening.Failed

-- the cause of a fault of the database: the disk failed during the call, except for want of memory
abbrev pub IsCauseOf : Type 0 → StoreError → Type 0
IsCauseOf fault stored.OutOfMemory = ⊤
IsCauseOf fault _ = fault

-- why a change is not added: the disk failed during the call, or the store was sealed; want of memory has no cause
abbrev pub AppendCause : ℕ → ℕ → Bool → AppendFault → Type 0
AppendCause before now sealed append.OutOfMemory = ⊤
AppendCause before now sealed append.Failed = MoreFaults before now
AppendCause before now sealed append.Full = MoreFaults before now
AppendCause before now sealed append.Sealed = sealed ≡ true
