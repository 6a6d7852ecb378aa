use Rattle.std.proofs.Common.{◌≡◌, ◌<◌, List, length, get_or, map, take, Some, sym, ap, subst, arith, ◌∙◌}
use Rattle.bucket_check.specs.ClashSets.{SetValue}
use Rattle.std.proofs.lemmas.List.{take_all}
use Rattle.clash_delta.specs.declared.slot.Slot.{Slot}
use Rattle.clash_delta.proofs.Gathered.{sets_more, some_at, sets_right}
use Rattle.clash_delta.proofs.progress.Progress.sets.Goals as goal

pub add_set-requires : goal.add_set-requires
add_set-requires c =
    let all = c.as_slice-slot-items.ensures.value ∙ c.self.view_is in
    let is = c.slot-item.is ∙ ap (λ (l : List Slot). get_or l c.loop-slot.slot-index c.slot-item.result) all in
    some_at c.args.self.now c.loop-slot.slot-index c.slot-item.result c.requires (omega (arith, c.loop-slot-test.true, ap length all)) is

pub loop-slot-preserved : goal.loop-slot-preserved
loop-slot-preserved c =
    let all = c.as_slice-slot-items.ensures.value ∙ c.self.view_is in
    let is = c.slot-item.is ∙ ap (λ (l : List Slot). get_or l c.loop-slot.slot-index c.slot-item.result) all in
    let within : c.loop-slot.slot-index < length c.args.self.now = omega (arith, c.loop-slot-test.true, ap length all) in
    sets_more c.loop-slot.sets.items _ c.args.self.now c.loop-slot.slot-index c.slot-item.result within is (some_at c.args.self.now c.loop-slot.slot-index c.slot-item.result c.requires within is) c.loop-slot.invariant c.in_ok-add_set.ensures

pub returns-clause-right : goal.returns-clause-right
returns-clause-right c grid of =
    let all = c.as_slice-slot-items.ensures.value ∙ c.self.view_is in
    let whole = take_all c.loop-slot.slot-index c.args.self.now (omega (arith, c.loop-slot-test.false, ap length all)) in
    sets_right grid grid.buckets c.args.self.now c.loop-slot.sets.items of.buckets of.right (c.loop-slot.invariant ∙ ap (map (λ (s : Slot). s.set)) whole)
