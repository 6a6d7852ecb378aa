use Rattle.std.proofs.Common.{◌≡◌, ap, ◌∙◌, arith}
use Rattle.book_history.specs.History.{project_numbers}
use Rattle.federation_book.proofs.Counting.{one_number}
use Rattle.federation_book.proofs.projects.numbers_of.Goals as goal

pub loop-index-preserved : goal.loop-index-preserved
loop-index-preserved c = one_number c.loop-index.index c.loop-index.numbers c.push.new.self c.loop-index.invariant c.in_ok-push.ensures.ok

pub returns : goal.returns
returns c = c.loop-index.invariant ∙ ap project_numbers (let e : c.loop-index.index ≡ c.args.projects = omega arith in e)
