use Rattle.std.proofs.Common.{take}
use Rattle.serde_json.specs.View.{items_view}
use Rattle.bcf_bodies.specs.CommentTrees.{IsCommentTree}
use Rattle.bcf_http.specs.Answers.{AreTrees}
use Rattle.bcf_http.proofs.arrays.comments_out.Given as goal

abbrev pub invariant-loop-comment : goal.invariant-loop-comment
invariant-loop-comment l = AreTrees (IsCommentTree l.project) (take l.comment-index l.comments) (items_view l.trees.items)
