-- The faults of an upload and of clash rules as JSON data.
use Rattle.std.specs.Prelude.{ℕ, List}
use Rattle.serde_json.specs.Data.{Data}
use Rattle.bim_model.specs.declared.upload.UploadFault.{UploadFault}
use Rattle.clash_rules.specs.declared.rule_fault.RuleFault.{RuleFault}
use Rattle.error_json.specs.declared.fault_words.FaultFields.{FaultFields}
use Rattle.error_json.specs.declared.fault_words.FaultFields.TheVariants.{Bare, Place, Id, Reference, What, Index, Count}
use Rattle.error_json.specs.FaultWords.{many_word, upload_code, upload_name, upload_fields, rule_code, rule_name, rule_fields}
use Rattle.error_json.specs.Errors.{error_tree, error_at, error_of, error_to, error_many, error_index, error_count}

-- an error by its code, its name and its fields
abbrev pub fields_tree : List ℕ → List ℕ → FaultFields → Data
fields_tree code name Bare = error_tree code name
fields_tree code name (Place at) = error_at code name at
fields_tree code name (Id id) = error_of code name id
fields_tree code name (Reference id to) = error_to code name id to
fields_tree code name (What what) = error_many code name (many_word what)
fields_tree code name (Index index) = error_index code name index
fields_tree code name (Count count) = error_count code name count

-- a fault of an upload, with its fields
abbrev pub upload_fault_tree : UploadFault → Data
upload_fault_tree fault = fields_tree (upload_code fault) (upload_name fault) (upload_fields fault)

-- a fault of clash rules, with its field
abbrev pub rule_fault_tree : RuleFault → Data
rule_fault_tree fault = fields_tree (rule_code fault) (rule_name fault) (rule_fields fault)
