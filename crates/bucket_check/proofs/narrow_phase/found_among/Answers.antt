use Rattle.std.proofs.Common.{◌≡◌, ◌<◌, List, [], All, length, map, refl, sym, ap, subst, ◌∙◌, arith, rules}
use Rattle.std.specs.List.{flat_map}
use Rattle.bim_model.specs.Distances.{in_grid_numbers}
use Rattle.bim_model.specs.Rules.{greatest_distance}
use Rattle.bim_model.specs.declared.geometry.Extent.{Extent}
use Rattle.box_lanes.specs.BoxPlaces.{box_at}
use Rattle.bucket_grid.specs.BucketTable.{upto}
use Rattle.bucket_grid.proofs.Upto.{upto_more}
use Rattle.bucket_check.specs.Clashes.{row_by}
use Rattle.bucket_check.specs.ClashSets.{rule_at}
use Rattle.bucket_check.proofs.Steps.{no_row, fewer, stopped}
use Rattle.bucket_check.proofs.narrow_phase.found_among.Goals as goal

pub refill-requires-clause-within : goal.refill-requires-clause-within
refill-requires-clause-within g c = subst (λ (l : List Extent). All (λ n. n < length l) c.args.members.now) (sym c.boxes.ensures.boxes) c.requires.members_in

pub add_later-requires-clause-greatest : goal.add_later-requires-clause-greatest
add_later-requires-clause-greatest g c = c.in_grid_numbers-greatest.ensures.value ∙ ap in_grid_numbers (c.greatest_distance.ensures ∙ ap greatest_distance c.rules.ensures.same)

pub loop-first-init : goal.loop-first-init
loop-first-init g c =
    let none = no_row (length c.args.members.now) in
    record {
      table = c.in_ok-refill.ensures.ok ∙ ap (λ (l : List Extent). map (box_at l) c.args.members.now) c.boxes.ensures.boxes;
      pairs = search rules;
      steps = omega (arith, none);
    }

pub loop-first-preserved : goal.loop-first-preserved
loop-first-preserved g c =
    let a = c.args in
    let l = c.loop-first in
    let inside : l.first < length a.members.now = omega (arith, c.loop-first-test.true) in
    record {
      table = c.in_ok-add_later.ensures.table ∙ l.invariant.table;
      pairs =
          upto_more (row_by (length a.members.now) (rule_at a.grid.now.version a.grid.now.boxes a.cell a.members.now)) l.first [] l.pairs.items _ _
          l.invariant.pairs c.in_ok-add_later.ensures.pairs refl;
      steps = fewer (length a.members.now) l.first l.steps _ _ _ inside (omega arith) c.in_ok-add_later.ensures.steps l.invariant.steps;
    }

pub returns-clause-pairs : goal.returns-clause-pairs
returns-clause-pairs g c =
    let a = c.args in
    let l = c.loop-first in
    let done : l.first ≡ length a.members.now = omega arith in
    l.invariant.pairs ∙ ap (λ n. flat_map (row_by (length a.members.now) (rule_at a.grid.now.version a.grid.now.boxes a.cell a.members.now)) (upto n)) done

pub returns-in_err-add_later-clause-steps : goal.returns-in_err-add_later-clause-steps
returns-in_err-add_later-clause-steps g c =
    let l = c.loop-first in
    let inside : l.first < length c.args.members.now = omega (arith, c.loop-first-test.true) in
    stopped (length c.args.members.now) l.first l.steps _ _ _ inside (omega arith) c.in_err-add_later.ensures.steps l.invariant.steps
