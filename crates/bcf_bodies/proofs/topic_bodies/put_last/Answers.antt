use Rattle.serde_json.specs.View.{view}
use Rattle.bcf_bodies.proofs.LastMembers.{third_put, last_put}
use Rattle.bcf_bodies.proofs.topic_bodies.put_last.Goals as goal

pub returns : goal.returns
returns c =
    last_put (view c.args.tree.now) c.args.body.now c.put_word.new.place c.put_word-2.new.place c.put_word-3.new.place c.put_word-4.new.place
    c.put_word-4.result c.in_ok-put_word.ensures c.in_ok-put_word-2.ensures c.in_ok-put_word-3.ensures c.put_word-4.ensures

pub returns-in_err-put_word-3 : goal.returns-in_err-put_word-3
returns-in_err-put_word-3 c =
    third_put (view c.args.tree.now) c.args.body.now _ c.put_word.new.place c.put_word-2.new.place
    c.from_residual-in_err-put_word-3.result c.in_err-put_word-3.field-0.0
    c.in_ok-put_word.ensures c.in_ok-put_word-2.ensures c.in_err-put_word-3.ensures c.from_residual-in_err-put_word-3.ensures.1
