use Rattle.std.proofs.Common.{◌≡◌, ◌++◌, List, subst}
use Rattle.std.specs.Result.{IfOk, OnOk}
use Rattle.bim_model.specs.declared.rules.Rule.{Rule}
use Rattle.book_turn.specs.Entries.{listed}
use Rattle.book_history.specs.declared.changes.Change.TheVariants.{SetRules}
use Rattle.book_history.specs.declared.replies.ReplyBody.{ReplyBody}
use Rattle.book_history.specs.Requests.{in_project, changed, body_of, entry_by}
use Rattle.federation_book.specs.KeptProjects.{settings_of}
use Rattle.federation_book.proofs.making.set_rules.Goals as goal

pub returns-clause-reply : goal.returns-clause-reply
returns-clause-reply c =
    let j = c.args.state.now.entries.items in
    subst (λ (r : List Rule). IfOk c.set_shared_rules.result (λ (body : ReplyBody). body ≡ body_of j (in_project c.args.number (changed (settings_of c.args.state.now) j (SetRules r c.args.weight)))))
    c.in_ok-rules.ensures c.set_shared_rules.ensures.reply

pub returns-clause-added : goal.returns-clause-added
returns-clause-added c =
    let j = c.args.state.now.entries.items in
    subst (λ (r : List Rule). OnOk c.set_shared_rules.result (c.set_shared_rules.new.state.entries.items ≡ j ++ listed (entry_by c.args.stamp (in_project c.args.number (changed (settings_of c.args.state.now) j (SetRules r c.args.weight))))))
    c.in_ok-rules.ensures c.set_shared_rules.ensures.added
