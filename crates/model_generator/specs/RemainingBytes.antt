-- What is left of a generated file.
use Rattle.std.specs.Prelude.{ℕ, List, [], ◌++◌}
use Rattle.model_generator.specs.declared.pieces.Stage.{Stage}
use Rattle.model_generator.specs.declared.pieces.Stage.TheVariants.{Head, Elements, Done}
use Rattle.model_generator.specs.InstanceLines.{head}
use Rattle.model_generator.specs.GeneratedFiles.{rest_from}

-- the bytes that are still to come at a stage, of so many elements from a place on
abbrev pub left_of : ℕ → Stage → ℕ → ℕ → List ℕ
left_of number Head place count = head ++ rest_from number place count
left_of number Elements place count = rest_from number place count
left_of number Done place count = []
