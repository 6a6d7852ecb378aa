use Rattle.std.proofs.Common.{◌+ℤ◌, MatchOption, ◌≡◌, ap, ◌∙◌, subst}
use Rattle.bim_model.specs.declared.geometry.Point.{Point}
use Rattle.bim_model.specs.Models.{IsInReach}
use Rattle.placement.specs.declared.frame.Offset.{Offset}
use Rattle.placement.specs.Frames.{component, carried, point_at, most}
use Rattle.ifc_units.proofs.PointFacts.{same_point}
use Rattle.placement.proofs.frame.Frame.place.Goals as goal

pub in_reach-requires : goal.in_reach-requires
in_reach-requires c = c.moved.ensures.within most most c.requires.within c.lengths_of.ensures.within

pub returns : goal.returns
returns c =
    let f = c.args.self.now in
    let e : point_at c.moved.result ≡ carried f c.args.point = same_point _ _
    (c.moved.ensures.x ∙ ap (λ (l : Offset). f.offset.x +ℤ component f l 0) c.lengths_of.ensures.value)
    (c.moved.ensures.y ∙ ap (λ (l : Offset). f.offset.y +ℤ component f l 1) c.lengths_of.ensures.value)
    (c.moved.ensures.z ∙ ap (λ (l : Offset). f.offset.z +ℤ component f l 2) c.lengths_of.ensures.value) in
    subst (λ (q : Point). MatchOption c.in_reach.result (IsInReach q → ⊥) (λ (p : Point). (p ≡ q) × IsInReach p)) e c.in_reach.ensures
