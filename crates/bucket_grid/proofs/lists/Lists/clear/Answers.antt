use Rattle.std.proofs.Common.{arith, ◌∙◌}
use Rattle.std.proofs.lemmas.List.{length-set}
use Rattle.bucket_grid.proofs.Nested.{cleared_more}
use Rattle.bucket_grid.proofs.Blocks.{still_marked}
use Rattle.bucket_grid.proofs.lists.Lists.clear.Goals as goal

pub loop-place-preserved-then-index : goal.loop-place-preserved-then-index
loop-place-preserved-then-index c =
    let lists = c.loop-place.self-inside.lists.items in
    let place = c.loop-place.place in
    record {
      count = length-set lists place c.clear.new.self ∙ c.loop-place.invariant.count;
      marked = still_marked (λ v. v.items) lists c.loop-place.self-inside.marks.items place c.clear.new.self (omega (arith, c.loop-place-test.true)) c.clear.ensures.items c.loop-place.invariant.marked;
      empty = cleared_more (λ v. v.items) lists place c.clear.new.self (omega (arith, c.loop-place-test.true)) c.clear.ensures.items c.loop-place.invariant.empty;
    }
