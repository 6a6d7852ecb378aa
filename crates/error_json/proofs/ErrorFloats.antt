-- Errors have no float, so their text is stated.
use Rattle.std.proofs.Common.{◌≡◌, ℕ, List, false, refl}
use Rattle.serde_json.specs.Written.{has_float}
use Rattle.bim_model.specs.declared.upload.UploadFault.{UploadFault}
use Rattle.clash_rules.specs.declared.rule_fault.RuleFault.{RuleFault}
use Rattle.error_json.specs.Errors.{error_tree, error_at, error_of, error_to, error_many, error_named, error_index, error_count, error_full, error_place, error_turn, error_store, error_newest, error_version}
use Rattle.error_json.specs.declared.fault_words.FaultFields.{FaultFields}
use Rattle.error_json.specs.declared.fault_words.FaultFields.TheVariants.{Bare, Place, Id, Reference, What, Index, Count}
use Rattle.error_json.specs.FaultWords.{many_word, upload_code, upload_name, upload_fields, rule_code, rule_name, rule_fields}
use Rattle.error_json.specs.FaultTrees.{fields_tree, upload_fault_tree, rule_fault_tree}

pub error_has_none : (code name : List ℕ) → has_float (error_tree code name) ≡ false
unfolding error_tree
error_has_none code name = refl

pub at_has_none : (code name : List ℕ) (at : ℕ) → has_float (error_at code name at) ≡ false
unfolding error_at
at_has_none code name at = refl

of_has_none : (code name : List ℕ) (id : ℕ) → has_float (error_of code name id) ≡ false
unfolding error_of
of_has_none code name id = refl

to_has_none : (code name : List ℕ) (id to : ℕ) → has_float (error_to code name id to) ≡ false
unfolding error_to
to_has_none code name id to = refl

many_has_none : (code name what : List ℕ) → has_float (error_many code name what) ≡ false
unfolding error_many
many_has_none code name what = refl

pub named_has_none : (code name what : List ℕ) → has_float (error_named code name what) ≡ false
unfolding error_named
named_has_none code name what = refl

index_has_none : (code name : List ℕ) (index : ℕ) → has_float (error_index code name index) ≡ false
unfolding error_index
index_has_none code name index = refl

count_has_none : (code name : List ℕ) (count : ℕ) → has_float (error_count code name count) ≡ false
unfolding error_count
count_has_none code name count = refl

pub full_has_none : (code name : List ℕ) (count limit : ℕ) → has_float (error_full code name count limit) ≡ false
unfolding error_full
full_has_none code name count limit = refl

pub place_has_none : (code name : List ℕ) (place total : ℕ) → has_float (error_place code name place total) ≡ false
unfolding error_place
place_has_none code name place total = refl

pub turn_has_none : (code name : List ℕ) (given turn : ℕ) → has_float (error_turn code name given turn) ≡ false
unfolding error_turn
turn_has_none code name given turn = refl

pub store_has_none : (code name : List ℕ) (count limit : ℕ) (what : List ℕ) → has_float (error_store code name count limit what) ≡ false
unfolding error_store
store_has_none code name count limit what = refl

pub newest_has_none : (code name : List ℕ) (newest : ℕ) → has_float (error_newest code name newest) ≡ false
unfolding error_newest
newest_has_none code name newest = refl

pub dropped_has_none : (code name : List ℕ) (newest version : ℕ) → has_float (error_version code name newest version) ≡ false
unfolding error_version
dropped_has_none code name newest version = refl

fields_have_none : (code name : List ℕ) (fields : FaultFields) → has_float (fields_tree code name fields) ≡ false
fields_have_none code name Bare = error_has_none code name
fields_have_none code name (Place at) = at_has_none code name at
fields_have_none code name (Id id) = of_has_none code name id
fields_have_none code name (Reference id to) = to_has_none code name id to
fields_have_none code name (What what) = many_has_none code name (many_word what)
fields_have_none code name (Index index) = index_has_none code name index
fields_have_none code name (Count count) = count_has_none code name count

pub rule_fault_has_none : (f : RuleFault) → has_float (rule_fault_tree f) ≡ false
rule_fault_has_none f = fields_have_none (rule_code f) (rule_name f) (rule_fields f)

pub upload_has_none : (f : UploadFault) → has_float (upload_fault_tree f) ≡ false
upload_has_none f = fields_have_none (upload_code f) (upload_name f) (upload_fields f)
