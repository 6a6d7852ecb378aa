use Rattle.std.proofs.Common.{rules, arith, ◌≡◌, true, option_copied}
use Rattle.faceset.specs.FaceSets.{is_polygonal, numbering}
use Rattle.faceset.proofs.Placed.{shown_numbers}
use Rattle.faceset.proofs.StuckFaces.{set_least_in}
use Rattle.faceset.proofs.stuck.least_stuck.Goals as goal

pub returns : goal.returns
returns c =
    let polygonal : is_polygonal c.args.set.now ≡ true = first_of (search rules, grind arith) in
    set_least_in c.args.exchange.now c.args.points.now c.args.set.now (option_copied c.as_deref.result) c.listed.result c.deref.result.now c.first_in.result polygonal (shown_numbers c.in_ok-numbers.numbers c.as_deref.result (numbering c.args.set.now) c.in_ok-numbers.ensures c.as_deref.ensures.cases) c.listed.ensures
    (rw c.deref.ensures.value c.in_ok-ids.ensures.same) c.first_in.ensures
