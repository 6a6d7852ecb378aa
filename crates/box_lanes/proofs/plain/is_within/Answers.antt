use Rattle.std.proofs.Common.{rules, sym, ◌∙◌}
use Rattle.box_lanes.proofs.Spans.{read}
use Rattle.box_lanes.proofs.Axes.{third, second, first}
use Rattle.box_lanes.proofs.plain.is_within.Goals as goal
use Rattle.box_lanes.proofs.plain.is_within.Goals.{then-is_close, else-is_close}

pub returns-then-is_close-2 : goal.returns-then-is_close-2
returns-then-is_close-2 c =
    let p = c.args.probe.now in
    let b = c.args.extent.now in
    let g = c.args.grow in
    let x = read b.low.x b.high.x p.low.x p.high.x g (search rules) (search rules) (search rules) (search rules) c.is_close.ensures in
    let z = read b.low.z b.high.z p.low.z p.high.z g (search rules) (search rules) (search rules) (search rules) c.is_close-then-is_close-2.ensures in
    elim c.if-is_close.branch [
      | then-is_close w ↦
          let y = read b.low.y b.high.y p.low.y p.high.y g (search rules) (search rules) (search rules) (search rules) w.is_close-then-is_close.ensures in
          third _ _ _ (sym x ∙ w.if-is_close.true) (sym y ∙ sym w.value-is ∙ c.if-is_close-2.true) z
      | else-is_close w ↦ absurd (cc)
    ]

pub returns-else-is_close-2 : goal.returns-else-is_close-2
returns-else-is_close-2 c =
    let p = c.args.probe.now in
    let b = c.args.extent.now in
    let g = c.args.grow in
    let x = read b.low.x b.high.x p.low.x p.high.x g (search rules) (search rules) (search rules) (search rules) c.is_close.ensures in
    elim c.if-is_close.branch [
      | then-is_close w ↦
          let y = read b.low.y b.high.y p.low.y p.high.y g (search rules) (search rules) (search rules) (search rules) w.is_close-then-is_close.ensures in
          second _ _ _ (sym x ∙ w.if-is_close.true) (sym y ∙ sym w.value-is ∙ c.if-is_close-2.false) c.if-is_close-2.false
      | else-is_close w ↦ first _ _ _ (sym x ∙ w.if-is_close.false) c.if-is_close-2.false
    ]
