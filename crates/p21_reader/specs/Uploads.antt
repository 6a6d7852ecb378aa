use Rattle.std.specs.Prelude.{◌≡◌, ℕ, ◌<◌, ◌≤◌, Bool, IsTrue, List, [], ◌∷◌, length, IsPermutation, ◌↔◌}
use Rattle.bim_model.specs.declared.upload.UploadFault.{UploadFault}
use Rattle.bim_model.specs.declared.upload.UploadFault.TheVariants as faults
use Rattle.bim_model.specs.declared.upload.BuildError.{BuildError}
use Rattle.bim_model.specs.declared.upload.BuildError.TheVariants as errors
use Rattle.bim_model.specs.declared.upload.Many.TheVariants as many
use Rattle.p21_lexer.specs.Cutting.{start_of}
use Rattle.p21_values.specs.declared.limits.TheConstants.{MOST_INSTANCES, MOST_VALUES}
use Rattle.bim_model.specs.declared.limits.TheConstants.{MOST_UPLOAD}
use Rattle.p21_values.specs.declared.value.Instance.{Instance}
use Rattle.p21_values.specs.Grammar.{Iso, Semi, Word, T}
use Rattle.p21_values.specs.Lexemes.{Lexeme, Cuts, classes}
use Rattle.p21_reader.specs.inner.TokenReading.{Goes}
use Rattle.p21_reader.specs.Schema.{Statement, NamesIfc4}
use Rattle.p21_values.specs.Counting.{values_of, times}
use Rattle.p21_values.specs.InstancePlaces.{Rises}
use Rattle.p21_values.specs.Tables.{Holds}
use Rattle.p21_reader.specs.ExchangeFiles.{HoldsFile, NoneThere, WrongThere}
use Rattle.p21_reader.specs.declared.table.Table.{Table}
use Rattle.p21_reader.specs.inner.Tabling.{Counts}

-- What an upload's bytes spell, and the first fault that they have.

-- the first two tokens are the word ISO-10303-21 and a semicolon
abbrev pub BeginsPart21 : List ℕ → Type 0
BeginsPart21 bytes = (ls : List Lexeme) × (end : ℕ) × Cuts bytes (start_of bytes) ls end
    × (classes ls ≡ Word Iso ∷ Semi ∷ [])

-- so many bytes at most, and the first tokens are a file with these statements in its header and these instances, in their order
abbrev pub IsUpload : List ℕ → List Statement → List Instance → Type 0
IsUpload bytes statements found = (length bytes ≤ MOST_UPLOAD) × HoldsFile bytes statements found

-- the same, and the header names IFC4
abbrev pub IsIfc4Upload : List ℕ → List Instance → Type 0
IsIfc4Upload bytes found = (statements : List Statement) × IsUpload bytes statements found
    × NamesIfc4 statements

-- two instances have this id, and no lesser one
abbrev pub IsLeastDouble : ℕ → List Instance → Type 0
IsLeastDouble id found = (2 ≤ times id found) × ((other : ℕ) → other < id → times other found ≤ 1)

-- The instances that the bytes spell: those of DATA in the order of their ids, which differ, of a file within the limits whose header
-- names IFC4.
abbrev pub SpellsExchange : List ℕ → List Instance → Type 0
SpellsExchange bytes instances =
    (found : List Instance) × IsIfc4Upload bytes found × IsPermutation found instances
    × (length instances ≤ MOST_INSTANCES) × (values_of instances ≤ MOST_VALUES) × Rises instances

-- The bytes have this fault, and none of an earlier stage. The faults that aren't a reader's are none of theirs.
abbrev pub HasFault : List ℕ → UploadFault → Type 0
HasFault bytes (faults.TooMany many.Bytes) = MOST_UPLOAD < length bytes
HasFault bytes faults.NotPart21 = (length bytes ≤ MOST_UPLOAD) × (BeginsPart21 bytes → ⊥)
HasFault bytes (faults.BadToken p) = (length bytes ≤ MOST_UPLOAD) × BeginsPart21 bytes × NoneThere bytes p
HasFault bytes (faults.BadStatement p) =
    (length bytes ≤ MOST_UPLOAD) × BeginsPart21 bytes × WrongThere bytes p
HasFault bytes faults.WrongSchema =
    (statements : List Statement) × (found : List Instance) × IsUpload bytes statements found
    × (NamesIfc4 statements → ⊥)
HasFault bytes (faults.TooMany many.Instances) =
    (found : List Instance) × IsIfc4Upload bytes found × (MOST_INSTANCES < length found)
HasFault bytes (faults.TooMany many.Values) =
    (found : List Instance) × IsIfc4Upload bytes found × (length found ≤ MOST_INSTANCES)
    × (MOST_VALUES < values_of found)
HasFault bytes (faults.DoubleId id) =
    (found : List Instance) × IsIfc4Upload bytes found × (length found ≤ MOST_INSTANCES)
    × (values_of found ≤ MOST_VALUES) × IsLeastDouble id found
HasFault _ _ = ⊥

-- out of memory is always allowed
abbrev pub IsCause : List ℕ → BuildError → Type 0
IsCause bytes (errors.Fault fault) = HasFault bytes fault
IsCause bytes errors.Memory = Unit {0}

-- What the functions answer.

-- there are too many instances, or else too many values
abbrev pub IsTooMany : List Instance → UploadFault → Type 0
IsTooMany found (faults.TooMany many.Instances) = MOST_INSTANCES < length found
IsTooMany found (faults.TooMany many.Values) =
    (length found ≤ MOST_INSTANCES) × (MOST_VALUES < values_of found)
IsTooMany _ _ = ⊥

-- a file with these instances, and whether its header names IFC4
abbrev pub Judges : List ℕ → List Instance → Bool → Type 0
Judges bytes found is_ifc4 = (statements : List Statement) × HoldsFile bytes statements found
    × (IsTrue is_ifc4 ↔ NamesIfc4 statements)

-- a file whose instances the table tells, one after another, and whose values it counts, and whether its header names IFC4
abbrev pub TablesFile : List ℕ → Table → Bool → Type 0
TablesFile bytes table is_ifc4 =
    (found : List Instance) × Judges bytes found is_ifc4
    × Holds bytes table.starts.items table.heads.items found × Counts 0 table.values (values_of found)

-- the same of a file that names IFC4
abbrev pub TablesUpload : List ℕ → Table → Type 0
TablesUpload bytes table =
    (found : List Instance) × IsIfc4Upload bytes found
    × Holds bytes table.starts.items table.heads.items found × Counts 0 table.values (values_of found)

-- the first two tokens of a file end here
abbrev pub BeginsAt : List ℕ → ℕ → Type 0
BeginsAt bytes end = (ls : List Lexeme) × (classes ls ≡ Word Iso ∷ Semi ∷ [])
    × Goes (T (Word Iso) ∷ T Semi ∷ []) [] bytes (start_of bytes) end ls
