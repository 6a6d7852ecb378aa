-- Identifiers by slots: those with one slot stand in a chain.
use Rattle.std.specs.Prelude.{◌≡◌, ◌≢◌, ℕ, zero, suc, ◌+◌, ◌-◌, ◌*◌, ◌%◌, ◌^◌, ◌<◌, ◌≤◌, List, [], length, map, slice_index, slice_index_or}
use Rattle.bim_model.specs.declared.element.Element.{Element}

-- the hash of so many characters from the eleventh on
unfoldable pub hash_seen : ℕ → List ℕ → ℕ
hash_seen zero chars = 0
hash_seen (suc n) chars = (hash_seen n chars * 31 % 2 ^ 32 + slice_index chars (n + 10)) % 2 ^ 32

-- the slot of an identifier, of so many slots
unfoldable pub slot_seen : ℕ → List ℕ → ℕ
slot_seen size chars = hash_seen 12 chars % size

-- the identifiers of elements
abbrev pub guids_seen : List Element → List (List ℕ)
guids_seen elements = map (λ (e : Element). e.guid.chars) elements

-- a note tells the last identifier before a place that has a slot: 1 + its place, or 0 where none has it
pub record IsLastOf (size : ℕ) (guids : List (List ℕ)) (slot upto note : ℕ) : Type 0 where
  pub within : note ≤ upto
  pub here : 0 < note → slot_seen size (slice_index_or guids (note - 1) []) ≡ slot
  pub none : (k : ℕ) → note ≤ k → k < upto → slot_seen size (slice_index_or guids k []) ≢ slot

-- the note of each slot tells the last identifier before a place that has it
abbrev pub AreNoted : ℕ → List (List ℕ) → List ℕ → ℕ → Type 0
AreNoted size guids last upto = (slot : ℕ) → slot < size
    → IsLastOf size guids slot upto (slice_index last slot)

-- the note of each identifier tells the last one before it that has its slot
abbrev pub AreChained : ℕ → List (List ℕ) → List ℕ → Type 0
AreChained size guids before = (k : ℕ) → k < length before
    → IsLastOf size guids (slot_seen size (slice_index_or guids k [])) k (slice_index before k)

-- none of the identifiers before a place is this one
abbrev pub IsNew : List (List ℕ) → ℕ → List ℕ → Type 0
IsNew guids upto guid = (k : ℕ) → k < upto → slice_index_or guids k [] ≢ guid

-- a chain is followed down to a note: no identifier from there up to a place is this one
pub record IsSought (size : ℕ) (guids : List (List ℕ)) (guid : List ℕ) (upto note : ℕ) : Type 0 where
  pub within : note ≤ upto
  pub here : 0 < note → slot_seen size (slice_index_or guids (note - 1) []) ≡ slot_seen size guid
  pub apart : (k : ℕ) → note ≤ k → k < upto → slice_index_or guids k [] ≢ guid
