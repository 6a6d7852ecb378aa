use Rattle.book_topics.proofs.topics_of_clashes.add_clash.Goals as goal

pub returns-clause-told : goal.returns-clause-told
returns-clause-told c = rw c.in_ok-body.ensures at c.add_topic.ensures.told

pub returns-clause-ok : goal.returns-clause-ok
returns-clause-ok c = rw c.in_ok-body.ensures at c.add_topic.ensures.ok
