-- What the types with references say.
use Rattle.placement.specs.declared.read.Numbers.{Numbers}
use Rattle.placement.specs.Directions.{Spelled}

-- the three numbers as they are spelled
abbrev pub spelled_of : Numbers → Spelled
spelled_of n = record { x = n.x.now; y = n.y.now; z = n.z.now }
