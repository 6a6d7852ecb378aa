use Rattle.std.proofs.Common.{arith}
use Rattle.bcf_bodies.specs.CommentTrees.{IsCommentTree}
use Rattle.bcf_http.proofs.GrownTrees.{trees_more, trees_all}
use Rattle.bcf_http.proofs.arrays.comments_out.Goals as goal

pub loop-comment-preserved : goal.loop-comment-preserved
loop-comment-preserved c =
    let l = c.loop-comment in
    let pushed = c.in_ok-push_comment.ensures in
    trees_more (IsCommentTree c.args.project) c.args.comments.now l.comment-index l.trees.items c.push_comment.new.trees.items
    c.loop-comment-test.true c.comment-item.result c.comment-item.is pushed.0 pushed.1 pushed.2 l.invariant

pub returns : goal.returns
returns c =
    let l = c.loop-comment in
    trees_all (IsCommentTree c.args.project) c.args.comments.now l.comment-index l.trees (omega arith) l.invariant
