use Rattle.std.specs.Prelude.{ℕ, ◌+◌, ◌==◌, List, sum, sum_by, count_by}
use Rattle.p21_values.specs.declared.value.Value21.{Value21}
use Rattle.p21_values.specs.declared.value.Value21.TheOpen.{Value21-F}
use Rattle.p21_values.specs.declared.value.Value21.TheOpen as layer
use Rattle.p21_values.specs.declared.value.Value21.TheFolds.{fold-Value21}
use Rattle.p21_values.specs.declared.value.Instance.{Instance}

-- How many values and instances there are.

-- A value counts one, a list and a typed value beside what they hold.
abbrev pub size_step : Value21-F ℕ → ℕ
size_step (layer.List vs) = sum vs + 1
size_step (layer.Typed word v) = v + 1
size_step _ = 1

-- how many values a value is, itself and those within
abbrev pub size : Value21 → ℕ
size = fold-Value21 ℕ size_step

-- how many values the instances have; their own parentheses are none, and a complex instance has none
abbrev pub values_of : List Instance → ℕ
values_of instances = sum_by (λ i. sum_by size i.values) instances

-- how many instances have that number
abbrev pub times : ℕ → List Instance → ℕ
times id instances = count_by (λ i. i.id == id) instances
