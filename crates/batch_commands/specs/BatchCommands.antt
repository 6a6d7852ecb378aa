-- What the commands do and answer.
use Rattle.std.specs.Prelude.{◌≡◌, ◌⊎◌, ℕ, ◌++◌, List, [], ◌∷◌, length, codes}
use Rattle.std.specs.Prelude.{Bool, true, false, Option, Some, None, Result, Ok, Err}
use Rattle.std.specs.Fmt.{decimal}
use Rattle.bim_model.specs.declared.element.Element.{Element}
use Rattle.bim_model.specs.declared.rules.Rule.{Rule}
use Rattle.bim_model.specs.declared.rules.ClassTest.TheVariants as class
use Rattle.bim_model.specs.declared.rules.StoreyTest.TheVariants as storey
use Rattle.bim_model.specs.declared.rules.ModelTest.TheVariants as models
use Rattle.bim_model.specs.declared.rules.RuleKind.TheVariants.{Clash}
use Rattle.bim_model.specs.declared.upload.Mode.TheVariants.{Exact}
use Rattle.bim_model.specs.Models.{triangle_count}
use Rattle.bim_model.specs.Snapshots.{Version}
use Rattle.bim_io.specs.StreamViews.{SinkSeen}
use Rattle.bim_files.specs.Files.{FilesSeen}
use Rattle.model_build.specs.Profile.{Profile}
use Rattle.model_generator.specs.GeneratedFiles.{generated}
use Rattle.bucket_check.specs.Clashes.{clashes}
use Rattle.batch_commands.specs.declared.check_words.CheckWords.{CheckWords}
use Rattle.batch_commands.specs.declared.generate_words.GenerateWords.{GenerateWords}
use Rattle.batch_commands.specs.declared.refusal.JudgeError.{JudgeError}
use Rattle.batch_commands.specs.declared.refusal.JudgeError.TheVariants.{Refused, File, Memory}
use Rattle.batch_commands.specs.Judging.{Finds}
use Rattle.batch_commands.specs.Reports.{found_bytes, refusal_line}
use Rattle.batch_commands.specs.PrintedOutput.{Prints, PrintsUsage, WantsMemory}

-- ---- check

-- what is written where a check finds nothing: the line of a refusal, or nothing
abbrev pub AnswersError : SinkSeen → SinkSeen → JudgeError → ℕ → Type 0
AnswersError old new (Refused why) status = Prints old new (refusal_line why) 3 status
AnswersError old new File status = (status ≡ 4) × (new ≡ old)
AnswersError old new Memory status = WantsMemory old new status

-- what is written of what a check finds: the clashes of the version, or why there are none
abbrev pub AnswersFound : SinkSeen → SinkSeen → Result Version JudgeError → ℕ → Type 0
AnswersFound old new (Ok version) status = Prints old new (found_bytes version) 0 status
AnswersFound old new (Err e) status = AnswersError old new e status

-- a check by what its words say
pub record ChecksBy (said : CheckWords) (files files' : FilesSeen) (sink sink' : SinkSeen) (status : ℕ)
    : Type 0 where
  pub found : Result Version JudgeError
  pub finds : Finds files files' said found
  pub answers : AnswersFound sink sink' found status

-- the files were not asked
abbrev pub Unasked : FilesSeen → FilesSeen → SinkSeen → SinkSeen → ℕ → Type 0
Unasked files files' sink sink' status = (files' ≡ files) × (PrintsUsage sink sink' status)

-- what `check` does by what its words say, or memory ran out for them
abbrev pub Checks : Option CheckWords → FilesSeen → FilesSeen → SinkSeen → SinkSeen → ℕ → Type 0
Checks None files files' sink sink' status =
    Unasked files files' sink sink' status ⊎ ((files' ≡ files) × WantsMemory sink sink' status)
Checks (Some said) files files' sink sink' status =
    ChecksBy said files files' sink sink' status ⊎ ((files' ≡ files) × WantsMemory sink sink' status)

-- ---- generate

-- any two elements clash where they touch
abbrev pub touching : List Rule
touching =
    record {
      a = class.Any;
      b = class.Any;
      storey = storey.Any;
      level = None;
      models = models.Any;
      kind = Clash 0;
    } ∷ []

-- the version of one model under that rule
abbrev pub version_of : List Element → Version
version_of model =
    record { models = record { name = codes "m"; model = model } ∷ []; rules = touching }

-- how many elements, triangles and clashes there are
abbrev pub numbers_text : ℕ → ℕ → ℕ → List ℕ
numbers_text elements triangles clashes =
    codes "elements " ++ (decimal elements ++ (codes "\ntriangles " ++ (decimal triangles
    ++ (codes "\nclashes " ++ (decimal clashes ++ codes "\n")))))

-- those of a model
abbrev pub summary_of : List Element → List ℕ
summary_of model =
    numbers_text (length model) (triangle_count model) (length (clashes (version_of model)))

-- this is the summary of the model that a generated file makes
pub record IsSummary (number count : ℕ) (text : List ℕ) : Type 0 where
  pub model : List Element
  pub makes : Profile (generated number count) Exact (Ok model)
  pub text_is : text ≡ summary_of model

-- the file is printed, or its numbers
abbrev pub GeneratesAs : Bool → ℕ → ℕ → SinkSeen → SinkSeen → ℕ → Type 0
GeneratesAs true number count old new status = Prints old new (generated number count) 0 status
GeneratesAs false number count old new status =
    (text : List ℕ) × IsSummary number count text × Prints old new text 0 status

-- what `generate` does by what its words say
abbrev pub GeneratesBy : GenerateWords → SinkSeen → SinkSeen → ℕ → Type 0
GeneratesBy said old new status = GeneratesAs said.file said.number said.count old new status

-- what `generate` does by what its words say, or memory ran out before anything was written
abbrev pub Generates : Option GenerateWords → SinkSeen → SinkSeen → ℕ → Type 0
Generates None old new status = PrintsUsage old new status ⊎ WantsMemory old new status
Generates (Some said) old new status = GeneratesBy said old new status ⊎ WantsMemory old new status
