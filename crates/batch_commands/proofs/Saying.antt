-- What the words of the two commands say, by the values of their options.
use Rattle.std.proofs.Common.{◌≡◌, ◌∙◌, ℕ, Bool, List, Option, option_map, codes, ap, ap₂}
use Rattle.clap.specs.Words.{first_of, first_value, matched_of, raw_values, rows_of}
use Rattle.clap.specs.declared.parser.matches.Found.{Found}
use Rattle.clap.proofs.WalkLemmas.{first_value-rows, raw_values-rows}
use Rattle.bim_model.specs.declared.upload.Mode.{Mode}
use Rattle.batch_commands.specs.declared.check_words.ModelWord.{ModelWord}
use Rattle.batch_commands.specs.CheckWords.{all_said, check_said, if_models, mode_said}
use Rattle.batch_commands.specs.GenerateWords.{both_said, count_said, file_said, generate_said, number_said}

pub check_by : (f : Found) (rules grid : Option (List ℕ)) (texts : Option (List (List ℕ))) (mode : Option Mode) (models : Option (List ModelWord)) → rules ≡ first_value f (codes "rules")
    → grid ≡ first_value f (codes "grid") → texts ≡ option_map raw_values (matched_of f (codes "models")) → mode ≡ mode_said grid → models ≡ if_models texts
    → all_said rules mode models ≡ check_said (rows_of f)
check_by f rules grid texts mode models rules_is grid_is texts_is mode_is models_is =
    ap (λ r. all_said r mode models) (rules_is ∙ first_value-rows f (codes "rules"))
    ∙ ap₂ (λ m w. all_said (first_of (codes "rules") (rows_of f)) m w) (mode_is ∙ ap mode_said (grid_is ∙ first_value-rows f (codes "grid")))
    (models_is ∙ ap if_models (texts_is ∙ raw_values-rows f (codes "models")))

pub generate_by : (f : Found) (count number file : Option (List ℕ)) (n m : Option ℕ) (b : Bool) → count ≡ first_value f (codes "count") → number ≡ first_value f (codes "number")
    → file ≡ first_value f (codes "file") → n ≡ count_said count → m ≡ number_said number → b ≡ file_said file → both_said n m b ≡ generate_said (rows_of f)
generate_by f count number file n m b count_is number_is file_is n_is m_is b_is =
    ap₂ (λ x y. both_said x y b) (n_is ∙ ap count_said (count_is ∙ first_value-rows f (codes "count"))) (m_is ∙ ap number_said (number_is ∙ first_value-rows f (codes "number")))
    ∙ ap (λ z. both_said (count_said (first_of (codes "count") (rows_of f))) (number_said (first_of (codes "number") (rows_of f))) z)
    (b_is ∙ ap file_said (file_is ∙ first_value-rows f (codes "file")))
