use Rattle.std.proofs.Common.{◌∙◌, ap, sym, Some, None}
use Rattle.ear_cut.specs.PolygonViews.{view_of}
use Rattle.void_bridge.proofs.FaceViews.{places, no_view, in_view}
use Rattle.void_bridge.proofs.HolesRead.{items_of}
use Rattle.void_bridge.proofs.joining.list_of.Goals as goal

pub returns-in_default : goal.returns-in_default
returns-in_default c = no_view c.args.outer.now (items_of c.args.inner.now) (sym c.in_default.is ∙ (c.view_of.ensures ∙ ap view_of c.normal_of.ensures))

pub returns-in-None : goal.returns-in-None
returns-in-None c =
    let found = rw c.in-None.is at c.in_ok-joined_in.ensures in
    in_view c.args.outer.now (items_of c.args.inner.now) c.in-Some.view None (sym c.in-Some.is ∙ (c.view_of.ensures ∙ ap view_of c.normal_of.ensures)) found

pub returns-in_ok-places_of-in-Some-2 : goal.returns-in_ok-places_of-in-Some-2
returns-in_ok-places_of-in-Some-2 c =
    let found = rw c.in-Some-2.is at c.in_ok-joined_in.ensures in
    in_view c.args.outer.now (items_of c.args.inner.now) c.in-Some.view (Some c.in-Some-2.corners.items) (sym c.in-Some.is ∙ (c.view_of.ensures ∙ ap view_of c.normal_of.ensures)) found
    ∙ ap Some (sym (c.in_ok-places_of-in-Some-2.ensures ∙ ap places c.deref.ensures.value))
