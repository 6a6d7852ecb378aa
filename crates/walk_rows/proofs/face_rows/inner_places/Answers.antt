use Rattle.std.proofs.Common.{List, subst, arith}
use Rattle.std.specs.List.{AllZip}
use Rattle.p21_values.specs.declared.value.Value21.{Value21}
use Rattle.faceset.specs.FaceSets.{NamesPoint}
use Rattle.walk_rows.proofs.RingsRead.{named_more, rings_more, total_more}
use Rattle.walk_rows.proofs.face_rows.inner_places.Goals as goal

pub overflow_add-total : goal.overflow_add-total
overflow_add-total c =
    let few = rw c.in-Some-2.is at c.in_ok-places.ensures.few in
    let rings = c.loop-row.invariant.rings.few in
    let total = c.loop-row.invariant.total_is in
    omega (arith, few, rings, total, c.len-total.ensures, c.in-Some-2.places.ok.0)

pub loop-row-preserved : goal.loop-row-preserved
loop-row-preserved c =
    let three = rw c.in-Some-2.is at c.in_ok-places.ensures.three in
    let old = c.loop-row.made.items in
    let new = c.push.new.self.items in
    let grown = c.in_ok-push.ensures.items in
    let total = c.loop-row.invariant.total_is in
    let past = c.if-total-gt-MOST_CORNERS.false in
    record {
      named = λ names are. (
          let here = (rw c.in-Some-2.is at c.in_ok-places.ensures.places names are) in
          named_more names c.args.count c.loop-row.yielded c.in-Some.row old new c.in-Some-2.places grown (c.loop-row.invariant.named names are)
          (subst (λ (vs : List Value21). AllZip (NamesPoint names c.args.count) vs c.in-Some-2.places.items) c.items_in.ensures here));
      rings = rings_more c.args.before old new c.in-Some-2.places grown c.loop-row.invariant.rings three (omega (arith, total, past));
      total_is = (let t = total_more old new c.in-Some-2.places grown in omega (arith, t, total));
    }
