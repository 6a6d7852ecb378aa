-- What files make of the words of a check.
use Rattle.std.specs.Prelude.{◌≡◌, ◌⊎◌, ℕ, List, [], ◌∷◌, ◌++◌, Option, Result, Ok, Err}
use Rattle.std.specs.List.{AllZip}
use Rattle.bim_model.specs.declared.named_model.NamedModel.{NamedModel}
use Rattle.bim_model.specs.declared.rules.Rule.{Rule}
use Rattle.bim_model.specs.declared.upload.Mode.{Mode}
use Rattle.bim_model.specs.declared.upload.UploadFault.{UploadFault}
use Rattle.bim_model.specs.Snapshots.{Version, with_model}
use Rattle.bim_io.specs.Causes.{Rose}
use Rattle.bim_files.specs.Files.{FilesTold, FilesSeen, Holds, Tells}
use Rattle.bim_files.specs.declared.front.FileError.{FileError}
use Rattle.bim_files.specs.declared.front.FileError.TheVariants as file
use Rattle.model_build.specs.Profile.{Profile}
use Rattle.clash_check.specs.VersionChecks.{IsVersionFault, IsChecked}
use Rattle.clash_check.specs.declared.version_fault.VersionFault.{VersionFault}
use Rattle.batch_commands.specs.declared.check_words.ModelWord.{ModelWord}
use Rattle.batch_commands.specs.declared.check_words.CheckWords.{CheckWords}
use Rattle.batch_commands.specs.declared.rules_file.RulesFault.{RulesFault}
use Rattle.batch_commands.specs.declared.refusal.Refusal.{Refusal}
use Rattle.batch_commands.specs.declared.refusal.Refusal.TheVariants as refusal
use Rattle.batch_commands.specs.declared.refusal.JudgeError.{JudgeError}
use Rattle.batch_commands.specs.declared.refusal.JudgeError.TheVariants.{Refused, File, Memory}
use Rattle.batch_commands.specs.RulesFile.{rules_in}

-- ---- one file

-- the rules of the file of that name are these
pub record HasRules (before after : Option FilesTold) (name : List ℕ) (rules : List Rule) : Type 0 where
  pub bytes : List ℕ
  pub holds : Holds before after name bytes
  pub spell : rules_in bytes ≡ Ok rules

-- the file of that name spells no rules, with this fault
pub record LacksRules (before after : Option FilesTold) (name : List ℕ) (fault : RulesFault) : Type 0 where
  pub bytes : List ℕ
  pub holds : Holds before after name bytes
  pub spell : rules_in bytes ≡ Err fault

-- the file that a word names makes this model, which has the name that it says
pub record IsJudged (before after : Option FilesTold) (mode : Mode) (word : ModelWord) (model : NamedModel)
    : Type 0 where
  pub name : model.name ≡ word.name
  pub bytes : List ℕ
  pub holds : Holds before after word.file bytes
  pub makes : Profile bytes mode (Ok model.model)

-- the file that a word names makes no model, with this fault
pub record IsRefused (before after : Option FilesTold) (mode : Mode) (word : ModelWord) (fault : UploadFault)
    : Type 0 where
  pub bytes : List ℕ
  pub holds : Holds before after word.file bytes
  pub refused : Profile bytes mode (Err fault)

-- ---- all files

-- models put one after the other among those that are there, each in its place by name
abbrev pub placed : List NamedModel → List NamedModel → List NamedModel
placed there [] = there
placed there (model ∷ models) = placed (with_model model there) models

-- the models of the words are these, in the order of the words
abbrev pub AreJudged : Option FilesTold → Option FilesTold → Mode → List ModelWord → List NamedModel → Type 0
AreJudged before after mode words models = AllZip (IsJudged before after mode) words models

-- the first of the words whose file is refused, with its fault
pub record IsFirstRefused (before after : Option FilesTold) (mode : Mode) (words : List ModelWord)
    (why : Refusal) : Type 0 where
  pub front : List ModelWord
  pub word : ModelWord
  pub rest : List ModelWord
  pub words_are : words ≡ front ++ word ∷ rest
  pub models : List NamedModel
  pub judged : AreJudged before after mode front models
  pub fault : UploadFault
  pub refused : IsRefused before after mode word fault
  pub why_is : why ≡ refusal.Model word.name fault

-- the version of the rules and models that the words name
pub record IsVersionOf (before after : Option FilesTold) (said : CheckWords) (version : Version)
    : Type 0 where
  pub rules : HasRules before after said.rules version.rules
  pub models : List NamedModel
  pub judged : AreJudged before after said.mode said.models models
  pub placed_are : version.models ≡ placed [] models

-- the rules are refused
pub record IsRulesRefusal (before after : Option FilesTold) (name : List ℕ) (why : Refusal) : Type 0 where
  pub fault : RulesFault
  pub lacks : LacksRules before after name fault
  pub why_is : why ≡ refusal.Rules fault

-- the rules are good, and a file is refused
pub record IsModelRefusal (before after : Option FilesTold) (said : CheckWords) (why : Refusal) : Type 0 where
  pub rules : List Rule
  pub read : HasRules before after said.rules rules
  pub first : IsFirstRefused before after said.mode said.models why

-- the rules and the files are good, and their version is too large
pub record IsVersionRefusal (before after : Option FilesTold) (said : CheckWords) (why : Refusal)
    : Type 0 where
  pub version : Version
  pub of_words : IsVersionOf before after said version
  pub fault : VersionFault
  pub full : IsVersionFault version fault
  pub why_is : why ≡ refusal.Version fault

-- the first refusal: that of the rules, of a file in the order of the words, or of the version
abbrev pub IsRefusal : Option FilesTold → Option FilesTold → CheckWords → Refusal → Type 0
IsRefusal before after said why =
    IsRulesRefusal before after said.rules why
    ⊎ (IsModelRefusal before after said why ⊎ IsVersionRefusal before after said why)

-- ---- calls

-- files tell the same and have not failed
abbrev pub Quiet : FilesSeen → FilesSeen → Type 0
Quiet old new = Tells old.told new.told × (new.faults ≡ old.faults)

-- files tell the same and have failed
abbrev pub Fails : FilesSeen → FilesSeen → Type 0
Fails old new = Tells old.told new.told × Rose old.faults new.faults

-- why there is nothing: a refusal, a failure of the files, or out of memory
abbrev pub Ends : FilesSeen → FilesSeen → (Refusal → Type 0) → JudgeError → Type 0
Ends old new Is (Refused why) = Quiet old new × Is why
Ends old new Is File = Fails old new
Ends old new Is Memory = Quiet old new

-- the rules of a file are found, or there are none
abbrev pub JudgesRules : FilesSeen → FilesSeen → List ℕ → Result (List Rule) JudgeError → Type 0
JudgesRules old new name (Ok rules) = Quiet old new × HasRules old.told new.told name rules
JudgesRules old new name (Err e) = Ends old new (IsRulesRefusal old.told new.told name) e

-- one word's file is refused
pub record IsWordRefused (before after : Option FilesTold) (mode : Mode) (word : ModelWord) (why : Refusal)
    : Type 0 where
  pub fault : UploadFault
  pub refused : IsRefused before after mode word fault
  pub why_is : why ≡ refusal.Model word.name fault

-- the model of a word's file is found, or there is none
abbrev pub JudgesModel : FilesSeen → FilesSeen → Mode → ModelWord → Result NamedModel JudgeError → Type 0
JudgesModel old new mode word (Ok model) = Quiet old new × IsJudged old.told new.told mode word model
JudgesModel old new mode word (Err e) = Ends old new (IsWordRefused old.told new.told mode word) e

-- these rules and the models of the words
pub record IsMadeOf (before after : Option FilesTold) (mode : Mode) (words : List ModelWord)
    (rules : List Rule) (version : Version) : Type 0 where
  pub rules_are : version.rules ≡ rules
  pub models : List NamedModel
  pub judged : AreJudged before after mode words models
  pub placed_are : version.models ≡ placed [] models

-- the version of these rules and the models of the words is found, or there is none
abbrev pub JudgesModels :
    FilesSeen → FilesSeen → Mode → List ModelWord → List Rule → Result Version JudgeError → Type 0
JudgesModels old new mode words rules (Ok version) =
    Quiet old new × IsMadeOf old.told new.told mode words rules version
JudgesModels old new mode words rules (Err e) = Ends old new (IsFirstRefused old.told new.told mode words) e

-- the version that the words name is found, and it isn't too large; or there is nothing
abbrev pub Finds : FilesSeen → FilesSeen → CheckWords → Result Version JudgeError → Type 0
Finds old new said (Ok version) =
    Quiet old new × IsVersionOf old.told new.told said version × IsChecked version
Finds old new said (Err e) = Ends old new (IsRefusal old.told new.told said) e

-- an error of a file as one of a check
abbrev pub of_file : FileError → JudgeError
of_file file.Failed = File
of_file file.Memory = Memory
