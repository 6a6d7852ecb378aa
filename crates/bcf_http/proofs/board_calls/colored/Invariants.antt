use Rattle.std.proofs.Common.{◌≡◌, take, min}
use Rattle.bcf_http.specs.Asked.{greatest, colored_weight}
use Rattle.bcf_http.proofs.board_calls.colored.Given as goal

-- what was counted so far, or the greatest number
abbrev pub invariant-loop-coloring : goal.invariant-loop-coloring
invariant-loop-coloring l = l.count ≡ min greatest (colored_weight (take l.coloring-index l.colorings))
