use Rattle.std.proofs.Common.{◌≡◌, ◌↔◌, ◌<◌, List, length, get_or, take, IfSome, All, true≢false, refl, sym, ap, subst, arith, ◌∙◌}
use Rattle.std.specs.List.{AllZip}
use Rattle.std.proofs.lemmas.List.{take_all}
use Rattle.std.proofs.lemmas.Result.{IfOk-weaker}
use Rattle.bucket_grid.specs.declared.cell.Cell.{Cell}
use Rattle.bucket_grid.specs.declared.bucket_table.Bucket.{Bucket}
use Rattle.bucket_grid.specs.Grids.{GridValue}
use Rattle.bucket_grid.specs.BucketTable.{IsTable}
use Rattle.clash_delta.specs.declared.slot.Slot.{Slot}
use Rattle.clash_delta.specs.BucketProgress.{IsDone, IsOf}
use Rattle.clash_delta.specs.Carried.{IsCarried, IsMoved, IsReachedCell}
use Rattle.clash_delta.proofs.Fresh.{none_all}
use Rattle.clash_delta.proofs.Buckets.{IsFor, for_more, moved_for, rise_for, of_for, done_is_carried, below_next}
use Rattle.clash_delta.proofs.carrying.carry.Goals as goal

pub returns-then-not-same_rules-clause-done : goal.returns-then-not-same_rules-clause-done
returns-then-not-same_rules-clause-done c =
    let done = c.args.done.now in
    let before = c.args.before.now in
    let after = c.args.after.now in
    IfOk-weaker c.fresh.result (λ (made : List Slot). (cell : Cell) → IsDone made cell → ⊥) (λ (made : List Slot). (cell : Cell) → IsDone made cell ↔ IsCarried done before after cell)
    (λ made none cell. (
      λ d. absurd (none cell d),
      λ carried. absurd (true≢false (sym (c.same_rules.ensures.1 (c.rules.ensures.same ∙ carried.unmoved.rules ∙ ap (λ (g : GridValue). g.version.rules) (sym c.get-grid.ensures) ∙ sym c.rules-2.ensures.same)) ∙ c.if-not-same_rules.true)),
    ))
    c.fresh.ensures.none

pub returns-then-not-same_rules-clause-sets : goal.returns-then-not-same_rules-clause-sets
returns-then-not-same_rules-clause-sets c =
    let done = c.args.done.now in
    let after = c.args.after.now in
    IfOk-weaker c.fresh.result (λ (made : List Slot). (cell : Cell) → IsDone made cell → ⊥) (λ (made : List Slot). All (λ (s : Slot). IfSome s.set (IsMoved done after c.args.version s.cell)) made)
    (λ made none. none_all (IsMoved done after c.args.version) made none) c.fresh.ensures.none

pub loop-bucket-preserved : goal.loop-bucket-preserved
loop-bucket-preserved c =
    let done = c.args.done.now in
    let before = c.args.before.now in
    let after = c.args.after.now in
    let i = c.loop-bucket.bucket-index in
    let b = c.bucket-item.result in
    let all = c.buckets-bucket-items.ensures.buckets ∙ ap (λ (g : GridValue). g.buckets) c.get-grid.ensures in
    let within : i < length after.buckets = omega (arith, c.loop-bucket-test.true, ap length all) in
    let is = c.bucket-item.is ∙ ap (λ (l : List Bucket). get_or l i b) all in
    let reached = subst (λ (l : List Bucket). IsReachedCell l b.cell c.first_not_before-place.result) c.buckets-in-loop-bucket.ensures.buckets c.first_not_before-place.ensures in
    let table = subst (λ (g : GridValue). IsTable g.boxes g.buckets) c.get-grid.ensures (subst (λ (l : List Bucket). IsTable c.get-grid.result.now.boxes l) c.buckets-bucket-items.ensures.buckets c.buckets-bucket-items.ensures.table) in
    record {
      slots = for_more done before after c.args.version after.buckets i b c.loop-bucket.slots.items c.push.new.self.items _ within is c.loop-bucket.invariant.slots refl c.in_ok-set.ensures c.in_ok-push.ensures.items;
      within = reached.within;
      below = λ j k d e le lt h. below_next before.buckets after.buckets i j k c.first_not_before-place.result b d e reached is table.rising (omega (arith, le)) lt h;
    }

pub of-requires : goal.of-requires
of-requires c =
    let done = c.args.done.now in
    let before = c.args.before.now in
    let after = c.args.after.now in
    let all = c.buckets-bucket-items.ensures.buckets ∙ ap (λ (g : GridValue). g.buckets) c.get-grid.ensures in
    let table = subst (λ (g : GridValue). IsTable g.boxes g.buckets) c.get-grid.ensures (subst (λ (l : List Bucket). IsTable c.get-grid.result.now.boxes l) c.buckets-bucket-items.ensures.buckets c.buckets-bucket-items.ensures.table) in
    let zip = subst (λ (l : List Bucket). AllZip (IsFor done before after c.args.version) l c.loop-bucket.slots.items) (take_all c.loop-bucket.bucket-index after.buckets (omega (arith, c.loop-bucket-test.false, ap length all))) c.loop-bucket.invariant.slots in
    rise_for done before after c.args.version c.loop-bucket.slots.items zip table

pub returns-clause-of : goal.returns-clause-of
returns-clause-of c =
    let done = c.args.done.now in
    let before = c.args.before.now in
    let after = c.args.after.now in
    let all = c.buckets-bucket-items.ensures.buckets ∙ ap (λ (g : GridValue). g.buckets) c.get-grid.ensures in
    let zip = subst (λ (l : List Bucket). AllZip (IsFor done before after c.args.version) l c.loop-bucket.slots.items) (take_all c.loop-bucket.bucket-index after.buckets (omega (arith, c.loop-bucket-test.false, ap length all))) c.loop-bucket.invariant.slots in
    IfOk-weaker c.of.result (λ (made : List Slot). made ≡ c.loop-bucket.slots.items) (λ (made : List Slot). IsOf after made)
    (λ made e. subst (λ (m : List Slot). IsOf after m) (sym e) (of_for done before after c.args.version c.loop-bucket.slots.items zip)) c.of.ensures

pub returns-clause-done : goal.returns-clause-done
returns-clause-done c =
    let done = c.args.done.now in
    let before = c.args.before.now in
    let after = c.args.after.now in
    let all = c.buckets-bucket-items.ensures.buckets ∙ ap (λ (g : GridValue). g.buckets) c.get-grid.ensures in
    let table = subst (λ (g : GridValue). IsTable g.boxes g.buckets) c.get-grid.ensures (subst (λ (l : List Bucket). IsTable c.get-grid.result.now.boxes l) c.buckets-bucket-items.ensures.buckets c.buckets-bucket-items.ensures.table) in
    let zip = subst (λ (l : List Bucket). AllZip (IsFor done before after c.args.version) l c.loop-bucket.slots.items) (take_all c.loop-bucket.bucket-index after.buckets (omega (arith, c.loop-bucket-test.false, ap length all))) c.loop-bucket.invariant.slots in
    IfOk-weaker c.of.result (λ (made : List Slot). made ≡ c.loop-bucket.slots.items) (λ (made : List Slot). (cell : Cell) → IsDone made cell ↔ IsCarried done before after cell)
    (λ made e. subst (λ (m : List Slot). (cell : Cell) → IsDone m cell ↔ IsCarried done before after cell) (sym e) (done_is_carried done before after c.args.version c.loop-bucket.slots.items zip table)) c.of.ensures

pub returns-clause-sets : goal.returns-clause-sets
returns-clause-sets c =
    let done = c.args.done.now in
    let before = c.args.before.now in
    let after = c.args.after.now in
    let all = c.buckets-bucket-items.ensures.buckets ∙ ap (λ (g : GridValue). g.buckets) c.get-grid.ensures in
    let zip = subst (λ (l : List Bucket). AllZip (IsFor done before after c.args.version) l c.loop-bucket.slots.items) (take_all c.loop-bucket.bucket-index after.buckets (omega (arith, c.loop-bucket-test.false, ap length all))) c.loop-bucket.invariant.slots in
    IfOk-weaker c.of.result (λ (made : List Slot). made ≡ c.loop-bucket.slots.items) (λ (made : List Slot). All (λ (s : Slot). IfSome s.set (IsMoved done after c.args.version s.cell)) made)
    (λ made e. subst (λ (m : List Slot). All (λ (s : Slot). IfSome s.set (IsMoved done after c.args.version s.cell)) m) (sym e) (moved_for done before after c.args.version after.buckets c.loop-bucket.slots.items zip)) c.of.ensures
