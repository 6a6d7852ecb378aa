use Rattle.std.proofs.Common.{ℕ, List, refl, arith}
use Rattle.bucket_check.specs.declared.pair.SetPair.{SetPair}
use Rattle.bucket_check.specs.Clashes.{pair_if}
use Rattle.bucket_check.specs.ClashSets.{rule_at}
use Rattle.bucket_check.proofs.Steps.{row_more}
use Rattle.bucket_check.proofs.narrow_phase.add_row.Goals as goal

pub loop-place-preserved : goal.loop-place-preserved
loop-place-preserved g c =
    let a = c.args in
    let f : ℕ → List SetPair = λ j. pair_if a.first j (rule_at a.grid.now.version a.grid.now.boxes a.cell a.members.now a.first j) in
    record {
      pairs = row_more f a.places.now c.loop-place.place-index a.pairs.now.items c.loop-place.pairs.items _ _ c.loop-place-test.true c.loop-place.invariant.pairs c.in_ok-add_pair.ensures.pairs refl;
      steps = omega (arith, c.loop-place.invariant.steps, c.in_ok-add_pair.ensures.steps);
    }
