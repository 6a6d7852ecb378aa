use Rattle.std.proofs.Common.{ℕ, List, ◌∷◌, ◌++◌, map, sym, subst, ap, ◌∙◌, append_assoc}
use Rattle.std.specs.List.{All}
use Rattle.std.specs.Map.Iter.{deref_pair}
use Rattle.std.proofs.lemmas.List.Elements.{All-head, All-tail}
use Rattle.std.proofs.lemmas.Map.Iter.{rest_more}
use Rattle.bcf_topics.proofs.Ranges.{of_topic}
use Rattle.bcf_viewpoints.specs.declared.view.ViewBody.{ViewBody}
use Rattle.bcf_viewpoints.specs.declared.view.ViewIs.{ViewIs}
use Rattle.bcf_viewpoints.specs.Viewpoints.{Views, IsViewBody, viewpoint, views_on}
use Rattle.bcf_viewpoints.proofs.Kept.{HasGood, topic_good}
use Rattle.bcf_viewpoints.proofs.viewpoints.listed.Goals as goal

pub loop-place-init : goal.loop-place-init
unfolding views_on
loop-place-init c =
    let es = c.args.views.now.entries in
    let ranged = c.into_iter-place-iterator.ensures.into_iter_gives ∙ c.range-place-items.ensures.between tt ∙ of_topic c.args.topic es in
    record {
      listed = rw c.new-list.ensures (ap (map (λ e. viewpoint e.0.1 e.1)) ranged);
      good = subst (λ (vs : Views). All HasGood vs) (sym ranged) (topic_good c.args.topic es c.requires.kept);
    }

pub of-requires : goal.of-requires
of-requires c =
    let rest = c.next.new.self in
    let step = rest_more deref_pair c.loop-place.place-iterator rest c.next.result (c.in-Some.place, c.in-Some.body) c.in-Some.is c.next.ensures.steps in
    let entry : (ℕ × ℕ) × ViewBody = (c.in-Some.place.now, c.in-Some.body.now) in
    let good = subst (λ (vs : Views). All HasGood vs) step c.loop-place.invariant.good in
    subst (λ (body : ViewBody). IsViewBody body) (sym c.in_ok-copy.ensures) (All-head HasGood entry rest good)

pub loop-place-preserved : goal.loop-place-preserved
loop-place-preserved c =
    let rest = c.next.new.self in
    let step = rest_more deref_pair c.loop-place.place-iterator rest c.next.result (c.in-Some.place, c.in-Some.body) c.in-Some.is c.next.ensures.steps in
    let entry : (ℕ × ℕ) × ViewBody = (c.in-Some.place.now, c.in-Some.body.now) in
    let good = subst (λ (vs : Views). All HasGood vs) step c.loop-place.invariant.good in
    let shown : Views → List ViewIs = λ vs. map (λ e. viewpoint e.0.1 e.1) vs in
    let made = c.of.ensures ∙ ap (viewpoint c.in-Some.place.now.1) c.in_ok-copy.ensures in
    record {
      listed = rw (c.in_ok-push.ensures.ok, append_assoc)
          (ap (λ (v : ViewIs). c.loop-place.list ++ v ∷ shown rest) made ∙ ap (λ (vs : Views). c.loop-place.list ++ shown vs) (sym step) ∙ c.loop-place.invariant.listed);
      good = All-tail HasGood entry rest good;
    }
