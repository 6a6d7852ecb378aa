use Rattle.std.proofs.Common.{◌≡◌, Bool, if◌then◌else◌, set, sym, ap, subst, ◌∙◌}
use Rattle.bcf_topics.specs.declared.topic.Topic.{Topic}
use Rattle.bcf_topics.specs.Topics.{topic_put, topics_put}
use Rattle.bcf_topics.specs.Discussions.{IsPlaceOf}
use Rattle.bcf_topics.proofs.Risen.{at_error, found_some, put_at, put_rises}
use Rattle.bcf_topics.proofs.topic_places.replace.Goals as goal

pub returns-in_err-made-in-Some-clause-there : goal.returns-in_err-made-in-Some-clause-there
returns-in_err-made-in-Some-clause-there c =
    let ts = c.args.topics.now.items in
    let p : IsPlaceOf ts c.args.serial c.in-Some.at = rw c.deref.ensures.value at c.in-Some.ensures in
    at_error c.from_residual.result (found_some c.args.serial ts c.in-Some.at c.requires p.within p.number)

pub returns-in_ok-made-in-Some-clause-found : goal.returns-in_ok-made-in-Some-clause-found
returns-in_ok-made-in-Some-clause-found c =
    let ts = c.args.topics.now.items in
    let p : IsPlaceOf ts c.args.serial c.in-Some.at = rw c.deref.ensures.value at c.in-Some.ensures in
    sym (found_some c.args.serial ts c.in-Some.at c.requires p.within p.number)

-- the made topic stands in the place of the old one
put : (c : goal.After-drop-topic) → set c.args.topics.now.items c.in-Some.at c.in_ok-made-in-Some.made
    ≡ topics_put c.args.serial c.args.body c.args.author c.args.topics.now.items
put c =
    let ts = c.args.topics.now.items in
    let p : IsPlaceOf ts c.args.serial c.in-Some.at = rw c.deref.ensures.value at c.in-Some.ensures in
    let x : Topic = c.index.result.now in
    let made = c.in_ok-made-in-Some.ensures ∙ ap (topic_put c.args.body c.args.author) (c.get.ensures ∙ c.index.ensures) in
    ap (λ (t : Topic). set ts c.in-Some.at t) made
    ∙ sym (put_at c.args.serial c.args.body c.args.author ts c.in-Some.at x c.requires p.within (p.number x))

pub returns-in_ok-made-in-Some-clause-after : goal.returns-in_ok-made-in-Some-clause-after
returns-in_ok-made-in-Some-clause-after c =
    let ts = c.args.topics.now.items in
    let p : IsPlaceOf ts c.args.serial c.in-Some.at = rw c.deref.ensures.value at c.in-Some.ensures in
    subst (λ (there : Bool). set ts c.in-Some.at c.in_ok-made-in-Some.made ≡ (if there then topics_put c.args.serial c.args.body c.args.author ts else ts))
    (sym (found_some c.args.serial ts c.in-Some.at c.requires p.within p.number)) (put c)

pub returns-in_ok-made-in-Some-clause-rises : goal.returns-in_ok-made-in-Some-clause-rises
returns-in_ok-made-in-Some-clause-rises c =
    rw (put c) (put_rises c.args.serial c.args.body c.args.author c.args.topics.now.items c.requires)
