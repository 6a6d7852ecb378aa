use Rattle.std.proofs.Common.{rules}
use Rattle.std.proofs.lemmas.List.Sorted.{answers_always}
use Rattle.bcf_topics.specs.declared.topic.Topic.{Topic}
use Rattle.bcf_topics.proofs.Risen.{found_number, none_there}
use Rattle.bcf_topics.proofs.topic_places.place_of.Goals as goal

pub returns-in-Ok : goal.returns-in-Ok
returns-in-Ok c =
    let p = c.in-Ok.ensures.position (λ (t : Topic). t.serial) (answers_always _ _ _ (λ f a r g h. search rules)) in
    record {
      within = c.in-Ok.ensures.bound;
      number = λ d. found_number c.args.serial c.args.topics.now c.in-Ok.at d p;
    }

pub returns-in-Err : goal.returns-in-Err
returns-in-Err c =
    let p = c.in-Err.ensures.position (λ (t : Topic). t.serial) (answers_always _ _ _ (λ f a r g h. search rules)) in
    none_there c.args.serial c.args.topics.now c.in-Err.field-0 c.requires p
