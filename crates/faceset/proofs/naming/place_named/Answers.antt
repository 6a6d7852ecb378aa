use Rattle.faceset.proofs.Badness.{named_directly}
use Rattle.faceset.proofs.naming.place_named.Goals as goal

pub returns-in-Some : goal.returns-in-Some
returns-in-Some c = rw c.in-Some.is c.place_numbered.ensures

pub returns-in-None : goal.returns-in-None
returns-in-None c = rw c.in-None.is (named_directly c.args.count c.args.value.now c.place_of.result c.place_of.ensures.some c.place_of.ensures.none)
