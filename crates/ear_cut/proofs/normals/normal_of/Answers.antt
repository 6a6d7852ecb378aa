use Rattle.std.proofs.Common.{ℕ, ◌+◌, ◌*◌, ◌≤◌, ℤ, refl, arith, rules}
use Rattle.std.specs.Prelude.{unsigned_abs}
use Rattle.ear_cut.specs.declared.normals.Normal.{Normal}
use Rattle.ear_cut.specs.Registers.{IsWithin}
use Rattle.ear_cut.proofs.Newell.{sum_more, last_more, sum_all}
use Rattle.ear_cut.proofs.normals.normal_of.Goals as goal

one_more : (a : ℤ) (i : ℕ) → unsigned_abs a ≤ 128000000000000 * i + 128000000000000 → unsigned_abs a ≤ 128000000000000 * (i + 1)
one_more a i h = omega (arith, h)

within_more : (n : Normal) (i : ℕ) → IsWithin n (128000000000000 * i + 128000000000000) → IsWithin n (128000000000000 * (i + 1))
within_more n i h = record { x_in = one_more n.x i h.x_in; y_in = one_more n.y i h.y_in; z_in = one_more n.z i h.z_in }

pub loop-corner-preserved : goal.loop-corner-preserved
loop-corner-preserved c = record {
  sum = sum_more _ c.args.corners.now c.loop-corner.corner-index _ _ _ _ c.loop-corner.previous _ c.loop-corner-test.true c.loop-corner.invariant.sum c.loop-corner.invariant.last refl c.product.ensures.value c.sum_of-sum.ensures.value;
  last = last_more _ c.args.corners.now c.loop-corner.corner-index _ _ c.loop-corner-test.true refl;
  previous_in = search rules;
  small = within_more _ _ (c.sum_of-sum.ensures.small _ c.loop-corner.invariant.small);
}

pub returns : goal.returns
returns c =
    sum_all c.args.corners.now _ c.loop-corner.corner-index _ c.loop-corner.previous _ _ _ c.requires.some (omega (arith, c.loop-corner-test.false)) refl c.loop-corner.invariant.sum c.loop-corner.invariant.last c.product-2.ensures.value c.sum_of.ensures.value
