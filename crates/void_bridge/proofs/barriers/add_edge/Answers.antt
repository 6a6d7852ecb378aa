use Rattle.std.proofs.Common.{◌∙◌, ap, map, arith}
use Rattle.std.proofs.lemmas.List.{length-map, map_push}
use Rattle.void_bridge.specs.inner.Barriers.{as_segment}
use Rattle.void_bridge.proofs.barriers.add_edge.Goals as goal

pub frame_one_more-requires : goal.frame_one_more-requires
frame_one_more-requires c = omega (arith, c.requires.enough, length-map c.args.barriers.now.edges.items as_segment, c.len-count.ensures)

pub returns-clause-edges : goal.returns-clause-edges
returns-clause-edges c = ap (map as_segment) c.in_ok-push.ensures.items ∙ map_push as_segment c.args.barriers.now.edges.items c.args.edge
