use Rattle.std.proofs.Common.{◌≡◌, ◌+◌, ◌++◌, ◌≤◌, length, drop, sym, ap, ◌∙◌, arith}
use Rattle.std.proofs.lemmas.List.Elements.{All-weaker, All-drop}
use Rattle.box_lanes.specs.CoarseBoxes.{meets, Fits32}
use Rattle.box_lanes.specs.BoxPlaces.{places_from, is_within_from}
use Rattle.box_lanes.proofs.Places.{places_agree}
use Rattle.box_lanes.proofs.Eights.{none_left}
use Rattle.box_lanes.proofs.box_table.BoxTable.later_within.Goals as goal

pub returns-then-first-count : goal.returns-then-first-count
returns-then-first-count c =
    let near = is_within_from c.args.start.now c.args.grow c.args.probe.now in
    let end : length c.args.self.now ≤ c.args.first + 1 = omega (arith, c.if-first-count.true, c.len-count.ensures.count) in
    c.clear.ensures.items ∙ ap (places_from (c.args.first + 1) near) (sym (none_left (c.args.first + 1) c.args.self.now end))

pub returns : goal.returns
returns c =
    let met = meets c.reach_of-reach.result in
    let near = is_within_from c.args.start.now c.args.grow c.args.probe.now in
    let rest = drop (c.args.first + 1) c.args.self.now in
    let fits = c.len-count.ensures.fits in
    c.in_ok-add_from.ensures ∙ ap (λ l. l ++ places_from (c.args.first + 1) met rest) c.clear.ensures.items
    ∙ places_agree met near (c.args.first + 1) rest (All-weaker Fits32 (λ b. met b ≡ near b) c.reach_of-reach.ensures.meets rest (All-drop Fits32 (c.args.first + 1) c.args.self.now fits))
