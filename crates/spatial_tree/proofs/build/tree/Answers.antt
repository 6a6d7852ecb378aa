use Rattle.std.proofs.Common.{sym, subst}
use Rattle.spatial_tree.specs.Trees.{IsRefused, ListsStoreys}
use Rattle.spatial_tree.specs.inner.TreeFaults.{IsFirstFault}
use Rattle.spatial_tree.proofs.RelationsTabled.{world_table, lent_within, fault_fits, refused_at, tree_of, storeys_listed}
use Rattle.spatial_tree.proofs.build.tree.Goals as goal

pub survey-requires : goal.survey-requires
survey-requires c = record {
  within = lent_within c.as_slice.result.now c.as_slice-2.result.now c.as_slice-3.result.now c.in_ok-table.table.objects.items c.in_ok-table.table.steps.items c.as_slice-4.result.now c.as_slice-4.ensures.value c.in_ok-table.ensures;
}

pub fault_at-requires : goal.fault_at-requires
fault_at-requires c =
    fault_fits c.as_slice.result.now c.as_slice-2.result.now c.as_slice-3.result.now c.in_ok-table.table.objects.items c.as_slice-in-Some.result.now c.in_ok-table.table.steps.items c.as_slice-5.result.now c.as_slice-6.result.now c.in-Some.at
    c.as_slice-in-Some.ensures.value c.as_slice-5.ensures.value c.in_ok-table.ensures (subst (λ r. IsFirstFault c.as_slice-5.result.now c.as_slice-6.result.now r) c.in-Some.is c.first_fault.ensures)

pub returns-in-Some-clause-refused : goal.returns-in-Some-clause-refused
returns-in-Some-clause-refused c =
    let t = world_table c.args.exchange.now c.iter.result c.in_ok-containers.containers.items c.as_slice.result.now c.in_ok-wholes.wholes.items c.as_slice-2.result.now c.in_ok-storeys.storeys.items c.as_slice-3.result.now
    c.in_ok-table.table.objects.items c.in_ok-table.table.steps.items c.as_slice-4.result.now c.in_ok-marks.marks.items
    c.iter.ensures.same c.as_slice.ensures.value c.as_slice-2.ensures.value c.as_slice-3.ensures.value c.as_slice-4.ensures.value
    c.in_ok-containers.ensures.all c.in_ok-wholes.ensures.all c.in_ok-storeys.ensures.all c.in_ok-table.ensures c.in_ok-marks.ensures in
    subst (λ e. IsRefused c.args.exchange.now e) (sym c.fault_at.ensures)
    (refused_at c.args.exchange.now c.in_ok-table.table.objects.items c.as_slice-in-Some.result.now c.in_ok-table.table.steps.items c.as_slice-5.result.now c.in_ok-marks.marks.items c.as_slice-6.result.now c.in-Some.at t
    c.as_slice-in-Some.ensures.value c.as_slice-5.ensures.value c.as_slice-6.ensures.value (subst (λ r. IsFirstFault c.as_slice-5.result.now c.as_slice-6.result.now r) c.in-Some.is c.first_fault.ensures))

pub returns-clause-storeys : goal.returns-clause-storeys
returns-clause-storeys c =
    let t = world_table c.args.exchange.now c.iter.result c.in_ok-containers.containers.items c.as_slice.result.now c.in_ok-wholes.wholes.items c.as_slice-2.result.now c.in_ok-storeys.storeys.items c.as_slice-3.result.now
    c.in_ok-table.table.objects.items c.in_ok-table.table.steps.items c.as_slice-4.result.now c.in_ok-marks.marks.items
    c.iter.ensures.same c.as_slice.ensures.value c.as_slice-2.ensures.value c.as_slice-3.ensures.value c.as_slice-4.ensures.value
    c.in_ok-containers.ensures.all c.in_ok-wholes.ensures.all c.in_ok-storeys.ensures.all c.in_ok-table.ensures c.in_ok-marks.ensures in
    subst (λ l. ListsStoreys c.args.exchange.now l) (sym c.new.ensures)
    (storeys_listed c.args.exchange.now c.in_ok-table.table.objects.items c.as_slice-7.result.now c.in_ok-table.table.steps.items c.as_slice-5.result.now c.in_ok-marks.marks.items c.as_slice-6.result.now c.as_slice-8.result.now c.in_ok-placed.placed.items t
    c.as_slice-7.ensures.value c.as_slice-5.ensures.value c.as_slice-6.ensures.value c.as_slice-8.ensures.value (subst (λ r. IsFirstFault c.as_slice-5.result.now c.as_slice-6.result.now r) c.in_default.is c.first_fault.ensures) c.in_ok-placed.ensures.placed)

pub returns-clause-tree : goal.returns-clause-tree
returns-clause-tree c =
    let t = world_table c.args.exchange.now c.iter.result c.in_ok-containers.containers.items c.as_slice.result.now c.in_ok-wholes.wholes.items c.as_slice-2.result.now c.in_ok-storeys.storeys.items c.as_slice-3.result.now
    c.in_ok-table.table.objects.items c.in_ok-table.table.steps.items c.as_slice-4.result.now c.in_ok-marks.marks.items
    c.iter.ensures.same c.as_slice.ensures.value c.as_slice-2.ensures.value c.as_slice-3.ensures.value c.as_slice-4.ensures.value
    c.in_ok-containers.ensures.all c.in_ok-wholes.ensures.all c.in_ok-storeys.ensures.all c.in_ok-table.ensures c.in_ok-marks.ensures in
    tree_of c.args.exchange.now c.in_ok-table.table.objects.items c.in_ok-table.table.steps.items c.as_slice-5.result.now c.in_ok-marks.marks.items c.as_slice-6.result.now t
    c.as_slice-5.ensures.value c.as_slice-6.ensures.value (subst (λ r. IsFirstFault c.as_slice-5.result.now c.as_slice-6.result.now r) c.in_default.is c.first_fault.ensures)
