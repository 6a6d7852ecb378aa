-- Versions: the models of a project under their names, and its clash rules.
use Rattle.std.specs.Prelude.{ℕ, ◌++◌, List, ◌∷◌, filter, not, IsTrue, All, AllPairs}
use Rattle.std.specs.Str.{bytes_eq}
use Rattle.bim_model.specs.Models.{is_below, IsModel}
use Rattle.bim_model.specs.declared.named_model.NamedModel.{NamedModel}
use Rattle.bim_model.specs.declared.rules.Rule.{Rule}

-- a version's models: strictly rising by name, each a building model
pub record IsSnapshot (models : List NamedModel) : Type 0 where
  pub rising : AllPairs (λ (m n : NamedModel). IsTrue (is_below m.name n.name)) models
  pub modelled : All (λ (m : NamedModel). IsModel m.model) models

-- the models with this one put in its place by name, and in place of one of the same name
abbrev pub with_model : NamedModel → List NamedModel → List NamedModel
with_model model models =
    filter (λ (m : NamedModel). is_below m.name model.name) models
    ++ model ∷ filter (λ (m : NamedModel). is_below model.name m.name) models

-- the models without the one of this name
abbrev pub without_model : List ℕ → List NamedModel → List NamedModel
without_model name models = filter (λ (m : NamedModel). not (bytes_eq m.name name)) models

-- a version: its models and its rules
pub record Version : Type 0 where
  pub models : List NamedModel
  pub rules : List Rule
