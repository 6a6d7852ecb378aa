use Rattle.std.proofs.Common.{◌≡◌, length, arith}
use Rattle.placement.proofs.Visiting.{climbed_when, visited}
use Rattle.placement.proofs.walk.Walk.visit.Goals as goal

pub returns : goal.returns
returns c =
    let middle = c.climb.new.self in
    let e = c.in_ok-climb.ensures in
    let f = c.in_ok-settle.ensures in
    let start : c.len-start.result ≡ length c.args.self.now.met.items = omega (arith, c.len-start.ensures) in
    let climbed = climbed_when c.args.exchange.now middle.met.items _ c.args.id c.in_ok-climb.field-0 c.if-not-branch.false e.outcome in
    visited c.args.exchange.now c.args.self.now middle c.settle.new.self c.args.id c.requires.settled e.ranked c.climb.ensures.order e.longer e.kept climbed c.settle.ensures.ranks c.settle.ensures.met
    (rw start at f.count) f.grows (rw start at f.sound) (rw start at f.order)
