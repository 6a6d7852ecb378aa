use Rattle.std.proofs.Common.{arith}
use Rattle.bcf_http.specs.Answers.{project_tree}
use Rattle.bcf_http.proofs.GrownTrees.{numbers_more, listed_all}
use Rattle.bcf_http.proofs.arrays.projects_out.Goals as goal

pub loop-number-preserved : goal.loop-number-preserved
loop-number-preserved c =
    let l = c.loop-number in
    numbers_more project_tree c.args.numbers.now l.number-index l.trees.items c.push_project.new.trees.items
    c.loop-number-test.true c.in_ok-push_project.ensures l.invariant

pub returns : goal.returns
returns c =
    let l = c.loop-number in
    listed_all project_tree c.args.numbers.now l.number-index l.trees (omega arith) l.invariant
