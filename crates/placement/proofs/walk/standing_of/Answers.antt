use Rattle.std.proofs.Common.{◌≡◌, Some, ap, ◌∙◌, sym}
use Rattle.std.proofs.lemmas.Option.{get_or_from_slice_get}
use Rattle.p21_values.specs.InstanceLookup.{look}
use Rattle.p21_values.proofs.PlaceLemmas.{found_at}
use Rattle.placement.proofs.Walking.{parent_is, unparented}
use Rattle.placement.proofs.walk.standing_of.Goals as goal

pub returns-in_err-parent-clause-none : goal.returns-in_err-parent-clause-none
returns-in_err-parent-clause-none c =
    let world = c.args.exchange.now in
    let i = c.instance.result in
    let e : look world c.args.id ≡ Some i = found_at world c.args.id c.in_ok-at.at i c.in_ok-at.ensures ∙ ap Some (get_or_from_slice_get world c.in_ok-at.at i i c.instance.ensures) in
    rw c.from_residual-in_err-parent.ensures (unparented world c.args.id i e c.in_err-parent.ensures)

pub returns-clause-some : goal.returns-clause-some
returns-clause-some c =
    let world = c.args.exchange.now in
    let i = c.instance.result in
    let e : look world c.args.id ≡ Some i = found_at world c.args.id c.in_ok-at.at i c.in_ok-at.ensures ∙ ap Some (get_or_from_slice_get world c.in_ok-at.at i i c.instance.ensures) in
    record { place = c.in_ok-at.ensures; parent = parent_is world c.args.id i e ∙ sym c.in_ok-parent.ensures }
