use Rattle.model_walk.proofs.set_pool.keep_set.Goals as goal

pub returns : goal.returns
returns c = λ scale mode are. (
    let read = rw c.in-Some.is at c.in_ok-made.ensures scale mode are in
    (c.in-Some.made, read, c.in_ok-put.ensures))
