use Rattle.std.proofs.Common.{◌≡◌, length, ap, arith}
use Rattle.std.proofs.lemmas.Result.{IfOk-weaker}
use Rattle.bucket_check.specs.ClashSets.{found_among, own_places}
use Rattle.bucket_check.proofs.Steps.{members_are, all_rows, fewer_pairs}
use Rattle.bucket_check.proofs.narrow_phase.own_places.Goals as goal

pub found_among-requires-clause-few : goal.found_among-requires-clause-few
found_among-requires-clause-few g c =
    let m = members_are c.args.grid.now.boxes c.args.cell c.members_in_turn-members.result.now c.members_in_turn-members.ensures.bucket c.members_in_turn-members.ensures.none in
    omega (arith, m.few, ap length c.boxes.ensures.boxes, c.boxes.ensures.small)

pub found_among-requires-clause-members_in : goal.found_among-requires-clause-members_in
found_among-requires-clause-members_in g c =
    let m = members_are c.args.grid.now.boxes c.args.cell c.members_in_turn-members.result.now c.members_in_turn-members.ensures.bucket c.members_in_turn-members.ensures.none in
    m.within

pub returns-clause-pairs : goal.returns-clause-pairs
returns-clause-pairs g c =
    let grid = c.args.grid.now in
    let m = members_are grid.boxes c.args.cell c.members_in_turn-members.result.now c.members_in_turn-members.ensures.bucket c.members_in_turn-members.ensures.none in
    IfOk-weaker c.found_among.result (λ v. v.items ≡ found_among grid.version grid.boxes c.args.cell c.members_in_turn-members.result.now) (λ v. v.items ≡ own_places grid c.args.cell)
    (λ v e. all_rows grid c.args.cell c.members_in_turn-members.result.now v.items m e) c.found_among.ensures.pairs

pub returns-clause-steps : goal.returns-clause-steps
returns-clause-steps g c =
    let m = members_are c.args.grid.now.boxes c.args.cell c.members_in_turn-members.result.now c.members_in_turn-members.ensures.bucket c.members_in_turn-members.ensures.none in
    let f = fewer_pairs _ _ m.no_more in
    omega (arith, c.found_among.ensures.steps, f)
