-- What is printed of a refusal: the code and the name of the fault, and its fields, with a blank before each.
use Rattle.std.specs.Prelude.{ℕ, List, ◌++◌, codes}
use Rattle.std.specs.Fmt.{decimal}
use Rattle.bim_model.specs.declared.upload.UploadFault.{UploadFault}
use Rattle.bucket_grid.specs.declared.grid.TheConstants.{MOST_MEMBERSHIPS}
use Rattle.error_json.specs.declared.fault_words.FaultFields.{FaultFields}
use Rattle.error_json.specs.declared.fault_words.FaultFields.TheVariants.{Bare, Place, Id, Reference, What, Index, Count}
use Rattle.error_json.specs.FaultWords.{many_word, upload_code, upload_name, upload_fields, rule_code, rule_name, rule_fields}
use Rattle.clash_check.specs.declared.version_fault.TheConstants.{MOST_VERSION_ELEMENTS}
use Rattle.clash_check.specs.declared.version_fault.VersionFault.{VersionFault}
use Rattle.clash_check.specs.declared.version_fault.VersionFault.TheVariants as version
use Rattle.batch_commands.specs.declared.rules_file.RulesFault.{RulesFault}
use Rattle.batch_commands.specs.declared.rules_file.RulesFault.TheVariants as rules

-- a number after a word
abbrev pub with_number : List ℕ → ℕ → List ℕ
with_number word number = word ++ (codes " " ++ decimal number)

-- a code, a name and what comes after them
abbrev pub named : List ℕ → List ℕ → List ℕ → List ℕ
named code name rest = code ++ (codes " " ++ (name ++ (codes " " ++ rest)))

-- a fault by its code, its name and its fields
abbrev pub fault_words : List ℕ → List ℕ → FaultFields → List ℕ
fault_words code name Bare = code ++ (codes " " ++ name)
fault_words code name (Place at) = named code name (decimal at)
fault_words code name (Id id) = named code name (decimal id)
fault_words code name (Reference id to) = named code name (decimal id ++ (codes " " ++ decimal to))
fault_words code name (What what) = named code name (many_word what)
fault_words code name (Index index) = named code name (decimal index)
fault_words code name (Count count) = named code name (decimal count)

-- a fault of an upload
abbrev pub upload_words : UploadFault → List ℕ
upload_words fault = fault_words (upload_code fault) (upload_name fault) (upload_fields fault)

-- a fault of rules
abbrev pub rules_words : RulesFault → List ℕ
rules_words rules.BadJson = codes "H9 BadJson"
rules_words (rules.Rule fault) = fault_words (rule_code fault) (rule_name fault) (rule_fields fault)

-- a version that is too large, with its count and the limit
abbrev pub version_words : VersionFault → List ℕ
version_words (version.ElementsFull count) =
    with_number (with_number (codes "K7 ElementsFull") count) MOST_VERSION_ELEMENTS
version_words (version.TooSpread count) =
    with_number (with_number (codes "K8 TooSpread") count) MOST_MEMBERSHIPS
