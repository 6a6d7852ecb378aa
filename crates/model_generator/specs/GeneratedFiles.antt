-- A generated file.
use Rattle.std.specs.Prelude.{ℕ, zero, suc, ◌+◌, List, ◌++◌}
use Rattle.model_generator.specs.Cuboids.{cuboid_of}
use Rattle.model_generator.specs.InstanceLines.{head, end, element_lines}

-- the lines of so many elements, from that place on, and those after them
abbrev pub rest_from : ℕ → ℕ → ℕ → List ℕ
rest_from number place zero = end
rest_from number place (suc count) =
    element_lines place (cuboid_of number place) ++ rest_from number (place + 1) count

-- the file of so many elements whose sizes and places are drawn from a number
abbrev pub generated : ℕ → ℕ → List ℕ
generated number count = head ++ rest_from number 0 count
