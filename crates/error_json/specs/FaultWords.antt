-- The code, the name and the fields of each fault of an upload and of clash rules.
use Rattle.std.specs.Prelude.{ℕ, List, codes}
use Rattle.bim_model.specs.declared.upload.Many.{Many}
use Rattle.bim_model.specs.declared.upload.Many.TheVariants as many
use Rattle.bim_model.specs.declared.upload.UploadFault.{UploadFault}
use Rattle.bim_model.specs.declared.upload.UploadFault.TheVariants as fault
use Rattle.clash_rules.specs.declared.rule_fault.RuleFault.{RuleFault}
use Rattle.clash_rules.specs.declared.rule_fault.RuleFault.TheVariants.{TooManyRules, BadRule, Distance}
use Rattle.error_json.specs.declared.fault_words.FaultFields.{FaultFields}
use Rattle.error_json.specs.declared.fault_words.FaultFields.TheVariants.{Bare, Place, Id, Reference, What, Index, Count}

-- what is too many
abbrev pub many_word : Many → List ℕ
many_word many.Bytes = codes "bytes"
many_word many.Instances = codes "instances"
many_word many.Values = codes "values"
many_word many.Corners = codes "corners"
many_word many.Triangles = codes "triangles"

-- the code of a fault of an upload
abbrev pub upload_code : UploadFault → List ℕ
upload_code fault.NotPart21 = codes "U1"
upload_code (fault.BadToken at) = codes "U2"
upload_code (fault.BadStatement at) = codes "U3"
upload_code fault.WrongSchema = codes "U4"
upload_code (fault.DoubleId id) = codes "U5"
upload_code (fault.Dangling id to) = codes "U6"
upload_code (fault.BadShape id) = codes "U7"
upload_code (fault.LengthUnit id) = codes "U8"
upload_code (fault.OffGrid id) = codes "U9"
upload_code (fault.TooFar id) = codes "U10"
upload_code (fault.Oblique id) = codes "U11"
upload_code (fault.PlacementLoop id) = codes "U12"
upload_code (fault.UnsupportedItem id) = codes "U13"
upload_code (fault.BadIndex id) = codes "U14"
upload_code (fault.FaceStuck id) = codes "U15"
upload_code (fault.VoidedFace id) = codes "U16"
upload_code (fault.DoubleGuid id) = codes "U17"
upload_code (fault.TreeFault id) = codes "U18"
upload_code (fault.TooMany what) = codes "U19"

-- the name of a fault of an upload
abbrev pub upload_name : UploadFault → List ℕ
upload_name fault.NotPart21 = codes "NotPart21"
upload_name (fault.BadToken at) = codes "BadToken"
upload_name (fault.BadStatement at) = codes "BadStatement"
upload_name fault.WrongSchema = codes "WrongSchema"
upload_name (fault.DoubleId id) = codes "DoubleId"
upload_name (fault.Dangling id to) = codes "Dangling"
upload_name (fault.BadShape id) = codes "BadShape"
upload_name (fault.LengthUnit id) = codes "LengthUnit"
upload_name (fault.OffGrid id) = codes "OffGrid"
upload_name (fault.TooFar id) = codes "TooFar"
upload_name (fault.Oblique id) = codes "Oblique"
upload_name (fault.PlacementLoop id) = codes "PlacementLoop"
upload_name (fault.UnsupportedItem id) = codes "UnsupportedItem"
upload_name (fault.BadIndex id) = codes "BadIndex"
upload_name (fault.FaceStuck id) = codes "FaceStuck"
upload_name (fault.VoidedFace id) = codes "VoidedFace"
upload_name (fault.DoubleGuid id) = codes "DoubleGuid"
upload_name (fault.TreeFault id) = codes "TreeFault"
upload_name (fault.TooMany what) = codes "TooMany"

-- the fields of a fault of an upload
abbrev pub upload_fields : UploadFault → FaultFields
upload_fields fault.NotPart21 = Bare
upload_fields (fault.BadToken at) = Place at
upload_fields (fault.BadStatement at) = Place at
upload_fields fault.WrongSchema = Bare
upload_fields (fault.DoubleId id) = Id id
upload_fields (fault.Dangling id to) = Reference id to
upload_fields (fault.BadShape id) = Id id
upload_fields (fault.LengthUnit id) = Id id
upload_fields (fault.OffGrid id) = Id id
upload_fields (fault.TooFar id) = Id id
upload_fields (fault.Oblique id) = Id id
upload_fields (fault.PlacementLoop id) = Id id
upload_fields (fault.UnsupportedItem id) = Id id
upload_fields (fault.BadIndex id) = Id id
upload_fields (fault.FaceStuck id) = Id id
upload_fields (fault.VoidedFace id) = Id id
upload_fields (fault.DoubleGuid id) = Id id
upload_fields (fault.TreeFault id) = Id id
upload_fields (fault.TooMany what) = What what

-- the code of a fault of clash rules
abbrev pub rule_code : RuleFault → List ℕ
rule_code (TooManyRules count) = codes "C2"
rule_code (BadRule index) = codes "C1"
rule_code (Distance index) = codes "C3"

-- the name of a fault of clash rules
abbrev pub rule_name : RuleFault → List ℕ
rule_name (TooManyRules count) = codes "TooManyRules"
rule_name (BadRule index) = codes "BadRule"
rule_name (Distance index) = codes "Distance"

-- the fields of a fault of clash rules
abbrev pub rule_fields : RuleFault → FaultFields
rule_fields (TooManyRules count) = Count count
rule_fields (BadRule index) = Index index
rule_fields (Distance index) = Index index
