use Rattle.std.proofs.Common.{rules, ap₂, ◌&&◌}
use Rattle.box_lanes.proofs.Grown.{axis}
use Rattle.box_lanes.proofs.reach.reach_of.Goals as goal

pub returns-clause-meets : goal.returns-clause-meets
returns-clause-meets c = λ box fits.
    let p = c.args.probe.now in
    let s = c.args.start.now in
    let low_x = c.lowered in
    let low_y = c.lowered-2 in
    let low_z = c.lowered-3 in
    let high_x = c.raised in
    let high_y = c.raised-2 in
    let high_z = c.raised-3 in
    ap₂ (λ a b. a && b)
    (ap₂ (λ a b. a && b)
    (axis box.low.x box.high.x p.low.x p.high.x low_x.result high_x.result s.x c.args.grow fits.low_x fits.high_x (search rules) (search rules) (search rules) (search rules) (search rules) low_x.ensures high_x.ensures)
    (axis box.low.y box.high.y p.low.y p.high.y low_y.result high_y.result s.y c.args.grow fits.low_y fits.high_y (search rules) (search rules) (search rules) (search rules) (search rules) low_y.ensures high_y.ensures))
    (axis box.low.z box.high.z p.low.z p.high.z low_z.result high_z.result s.z c.args.grow fits.low_z fits.high_z (search rules) (search rules) (search rules) (search rules) (search rules) low_z.ensures high_z.ensures)
