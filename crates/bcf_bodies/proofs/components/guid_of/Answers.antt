use Rattle.bcf_bodies.proofs.Guids.{read_is}
use Rattle.bcf_bodies.proofs.components.guid_of.Goals as goal

pub returns-in-Some : goal.returns-in-Some
returns-in-Some c =
    rw (← c.in-Some.ensures)
    (read_is c.in-Some.text.now c.read.result (rw c.as_bytes.ensures.value at c.read.ensures.read)
    (rw c.as_bytes.ensures.value at c.read.ensures.chars))
