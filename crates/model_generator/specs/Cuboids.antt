-- The cuboids of a generated model.
use Rattle.std.specs.Prelude.{ℕ, ◌+◌, ◌*◌, ◌%◌, ◌<◌}
use Rattle.model_generator.specs.declared.cuboid.Cuboid.{Cuboid}
use Rattle.model_generator.specs.RandomNumbers.{drawn}

-- the cuboid of a place, from 0: six numbers are drawn for each, the low corner and then the sizes
abbrev pub cuboid_of : ℕ → ℕ → Cuboid
cuboid_of number place = record {
  x = drawn number (6 * place + 1) % 40000;
  y = drawn number (6 * place + 2) % 40000;
  z = drawn number (6 * place + 3) % 12000;
  width = 100 + drawn number (6 * place + 4) % 900;
  depth = 100 + drawn number (6 * place + 5) % 900;
  height = 100 + drawn number (6 * place + 6) % 900;
}

-- all its corners lie within 41 metres
pub record IsSmall (cuboid : Cuboid) : Type 0 where
  pub x : cuboid.x + cuboid.width < 41000
  pub y : cuboid.y + cuboid.depth < 41000
  pub z : cuboid.z + cuboid.height < 41000
