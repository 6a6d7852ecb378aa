use Rattle.std.proofs.Common.{◌≡◌, ◌+◌, ◌-◌, ◌/◌, ◌^◌, ◌<◌, ◌++◌, List, [], ◌∷◌, length, map, take, drop, sym, ap, subst, ◌∙◌, arith, append_assoc, append-nil}
use Rattle.bim_model.specs.declared.geometry.Extent.{Extent}
use Rattle.box_lanes.proofs.Eights.{few_in}
use lib.Count.{count_trailing_zeros}
use lib.Lanes.{mask_l}
use Rattle.box_lanes.specs.CoarseBoxes.{meets}
use Rattle.box_lanes.proofs.Places.{next, finished}
use Rattle.box_lanes.specs.BoxPlaces.{part}
use Rattle.box_lanes.proofs.Bits.{part_none, part_next, part_done}
use Rattle.box_lanes.proofs.box_table.BoxTable.add_part.Goals as goal

pub loop-lanes-init : goal.loop-lanes-init
loop-lanes-init c =
    let a = c.args in
    record {
      low = omega arith;
      high = omega arith;
      bits = c.bits-lanes.ensures;
      found = c.in_ok-reserve.ensures.items ∙ sym (append-nil a.places.now.items) ∙ ap (λ l. a.places.now.items ++ l) (sym (part_none (meets a.reach.now) a.self.now a.from a.from (omega arith)));
    }

pub returns-then-lanes-eq0 : goal.returns-then-lanes-eq0
returns-then-lanes-eq0 c =
    let a = c.args in
    let p = meets a.reach.now in
    let none : mask_l (map p (take (a.end - a.from) (drop a.from a.self.now))) ≡ 0 = sym c.bits-lanes.ensures ∙ c.if-lanes-eq0.true in
    sym (ap (λ l. a.places.now.items ++ l) (part_done p a.self.now a.from a.end a.from (omega arith) (omega arith) c.requires.end (finished p a.self.now a.end a.from (omega arith) c.requires.end none) ∙ part_none p a.self.now a.from a.from (omega arith)) ∙ append-nil a.places.now.items)

pub overflow_add-place : goal.overflow_add-place
overflow_add-place c =
    let l = c.loop-lanes in
    let n = next (meets c.args.reach.now) c.args.self.now c.args.end l.place l.lanes l.invariant.high c.requires.end (omega (arith, c.requires.block, l.invariant.low)) c.loop-lanes-test.true l.invariant.bits in
    let few = subst (λ (l : List Extent). length l < 2 ^ 32) c.self.view_is (few_in c.self.inside c.self.invariant) in
    record { fits = omega (arith, n.within, c.requires.end, few) }

pub overflow_add-place-in-loop-lanes-2 : goal.overflow_add-place-in-loop-lanes-2
overflow_add-place-in-loop-lanes-2 c =
    let l = c.loop-lanes in
    let n = next (meets c.args.reach.now) c.args.self.now c.args.end l.place l.lanes l.invariant.high c.requires.end (omega (arith, c.requires.block, l.invariant.low)) c.loop-lanes-test.true l.invariant.bits in
    let few = subst (λ (l : List Extent). length l < 2 ^ 32) c.self.view_is (few_in c.self.inside c.self.invariant) in
    record { fits = omega (arith, n.within, c.requires.end, few) }

pub loop-lanes-preserved : goal.loop-lanes-preserved
loop-lanes-preserved c =
    let l = c.loop-lanes in
    let a = c.args in
    let p = meets a.reach.now in
    let n = next p a.self.now a.end l.place l.lanes l.invariant.high c.requires.end (omega (arith, c.requires.block, l.invariant.low)) c.loop-lanes-test.true l.invariant.bits in
    let k = count_trailing_zeros 64 l.lanes in
    record {
      low = omega (arith, l.invariant.low);
      high = omega (arith, n.within);
      bits = ap (λ m. m / 2 ^ k / 2) l.invariant.bits ∙ sym n.lanes;
      found =
          c.in_ok-push.ensures.items ∙ ap (λ ps. ps ++ (l.place + k) ∷ []) l.invariant.found ∙ append_assoc a.places.now.items (part p a.self.now a.from l.place) ((l.place + k) ∷ [])
          ∙ ap (λ ps. a.places.now.items ++ ps) (sym (part_next p a.self.now a.from a.end l.place k l.invariant.low c.requires.end n));
    }

pub returns : goal.returns
returns c =
    let l = c.loop-lanes in
    let a = c.args in
    let p = meets a.reach.now in
    l.invariant.found ∙ ap (λ ps. a.places.now.items ++ ps)
    (sym (part_done p a.self.now a.from a.end l.place l.invariant.low l.invariant.high c.requires.end (finished p a.self.now a.end l.place l.invariant.high c.requires.end (sym l.invariant.bits ∙ c.loop-lanes-test.false))))
