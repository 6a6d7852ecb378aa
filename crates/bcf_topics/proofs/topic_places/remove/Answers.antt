use Rattle.std.proofs.Common.{sym, ◌∙◌}
use Rattle.bcf_topics.specs.Discussions.{IsPlaceOf}
use Rattle.bcf_topics.proofs.Risen.{found_some, but_at, but_rises}
use Rattle.bcf_topics.proofs.topic_places.remove.Goals as goal

pub returns-in-Some : goal.returns-in-Some
returns-in-Some c =
    let ts = c.args.topics.now.items in
    let x = c.remove.result in
    let p : IsPlaceOf ts c.args.serial c.in-Some.at = rw c.deref.ensures.value at c.in-Some.ensures in
    let after = c.remove.ensures.items ∙ sym (but_at c.args.serial ts c.in-Some.at x c.requires p.within (p.number x)) in
    record {
      found = sym (found_some c.args.serial ts c.in-Some.at c.requires p.within p.number);
      after = after;
      rises = rw after (but_rises c.args.serial ts c.requires);
    }
