use Rattle.ear_cut.proofs.normals.product.Goals as goal

pub returns-clause-small : goal.returns-clause-small
returns-clause-small c = c.cross.ensures.small 8000000 c.from_origin.ensures.small c.from_origin-2.ensures.small
