use Rattle.std.proofs.Common.{sym}
use Rattle.ifc_elements.proofs.TrianglesAdded.{near_append, set_added, set_missing}
use Rattle.ifc_elements.proofs.surface.add_set.Goals as goal

pub returns-in_ok-extend_from_slice-in-Some-get-clause-near : goal.returns-in_ok-extend_from_slice-in-Some-get-clause-near
returns-in_ok-extend_from_slice-in-Some-get-clause-near c = λ before.
    near_append c.args.out.now.items c.in-Some-get.triangles.now c.extend_from_slice.new.self.items c.in_ok-extend_from_slice-in-Some-get.ensures.items c.in-Some-get.ensures.near before

pub returns-in_ok-extend_from_slice-in-Some-get-clause-added : goal.returns-in_ok-extend_from_slice-in-Some-get-clause-added
returns-in_ok-extend_from_slice-in-Some-get-clause-added c = λ scale mode listed are.
    set_added c.args.exchange.now scale mode listed c.args.sets.now c.args.value.now c.in-Some.id c.in-Some-get.triangles.now c.args.out.now.items c.extend_from_slice.new.self.items are
    (sym c.in-Some.ensures) (sym c.in-Some-get.ensures.same) c.in_ok-extend_from_slice-in-Some-get.ensures.items

pub returns-in-None-clause-added : goal.returns-in-None-clause-added
returns-in-None-clause-added c = λ scale mode listed are.
    set_missing c.args.exchange.now scale mode listed c.args.sets.now c.args.value.now c.in-Some.id _ are (sym c.in-Some.ensures) (sym c.in-Some-look.ensures) (sym c.in-None.ensures.same)
