use Rattle.std.proofs.Common.{rules, ◌≡◌, ℤ, Bool, sym, ap, ◌∙◌, to_z, of_z}
use Rattle.std.specs.Int.{w32}
use Rattle.std.proofs.lemmas.Int.{to_z-of_z}
use mir.Val.{SFits}
use Rattle.bucket_grid.specs.Cells.{is_in}
use Rattle.box_lanes.proofs.Axes.{third}
use Rattle.bucket_grid.proofs.owner.holds.Goals as goal
use Rattle.bucket_grid.proofs.owner.holds.Goals.{then-is_on, else-is_on}

-- a number that was read from a cell
read : (low high i : ℤ) (r : Bool) → SFits w32 i → r ≡ is_in low high (to_z w32 (of_z w32 i)) → r ≡ is_in low high i
read low high i r s e = e ∙ ap (is_in low high) (to_z-of_z w32 i s)

pub returns-then-is_on-2 : goal.returns-then-is_on-2
returns-then-is_on-2 c =
    let e = c.args.extent.now in
    let k = c.args.cell in
    let x = read e.low.x e.high.x k.x c.is_on.result (search rules) c.is_on.ensures in
    let z = read e.low.z e.high.z k.z c.is_on-then-is_on-2.result (search rules) c.is_on-then-is_on-2.ensures in
    elim c.if-is_on.branch [
      | then-is_on w ↦
          let y = read e.low.y e.high.y k.y w.is_on-then-is_on.result (search rules) w.is_on-then-is_on.ensures in
          third _ _ _ (sym x ∙ w.if-is_on.true) (sym y ∙ sym w.value-is ∙ c.if-is_on-2.true) z
      | else-is_on w ↦ absurd (cc)
    ]
