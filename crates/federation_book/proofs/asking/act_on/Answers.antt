use Rattle.book_history.specs.Legal.{IsLegal}
use Rattle.book_history.specs.Requests.{all_orders, changed, clashes_read, finished, in_project, order_for, outcome_of, removed, version_read}
use Rattle.book_history.specs.declared.changes.Change.TheVariants as change
use Rattle.federation_book.proofs.Acting.{added_is, asked_is, done_of, number_is, number_there, reply_is}
use Rattle.federation_book.proofs.Answering.{clashes_add, read_adds, work_adds}
use Rattle.federation_book.specs.KeptProjects.{settings_of}
use Rattle.std.proofs.Common.{ap, length, refl, subst, sym, ◌∙◌}
use Rattle.federation_book.proofs.asking.act_on.Goals as goal

pub upload-requires-clause-number : goal.upload-requires-clause-number
upload-requires-clause-number c =
    number_there c.project_of.result c.args.state.now.projects.items c.in-Upload.project
    (number_is c.project_of.result c.len-count.result c.args.state.now.projects.items c.in-Upload.project c.project_of.ensures (c.len-count.ensures ∙ c.args.state.now.projects.ok.0))

pub returns-in-Upload-clause-done : goal.returns-in-Upload-clause-done
returns-in-Upload-clause-done c =
    let s = (settings_of c.args.state.now) in
    let h = c.args.state.now.entries.items in
    let number = number_is c.project_of.result c.len-count.result c.args.state.now.projects.items c.in-Upload.project c.project_of.ensures (c.len-count.ensures ∙ c.args.state.now.projects.ok.0) in
    done_of c.upload.result h c.upload.new.state.entries.items c.args.stamp (outcome_of s h c.args.request)
    (reply_is c.upload.result h (in_project c.project_of.result (changed s h (change.Upload c.in-Upload.name c.in-Upload.model))) (outcome_of s h c.args.request) (ap (λ n. in_project n (changed s h (change.Upload c.in-Upload.name c.in-Upload.model))) number ∙ ap (outcome_of s h) (sym c.in-Upload.is)) c.upload.ensures.reply)
    (added_is c.upload.result h (in_project c.project_of.result (changed s h (change.Upload c.in-Upload.name c.in-Upload.model))) (outcome_of s h c.args.request) (ap (λ n. in_project n (changed s h (change.Upload c.in-Upload.name c.in-Upload.model))) number ∙ ap (outcome_of s h) (sym c.in-Upload.is)) c.upload.new.state.entries.items c.args.stamp c.upload.ensures.added)

pub remove-requires-clause-number : goal.remove-requires-clause-number
remove-requires-clause-number c =
    number_there c.project_of-in-Remove.result c.args.state.now.projects.items c.in-Remove.project
    (number_is c.project_of-in-Remove.result c.len-count.result c.args.state.now.projects.items c.in-Remove.project c.project_of-in-Remove.ensures (c.len-count.ensures ∙ c.args.state.now.projects.ok.0))

pub returns-in-Remove-clause-done : goal.returns-in-Remove-clause-done
returns-in-Remove-clause-done c =
    let s = (settings_of c.args.state.now) in
    let h = c.args.state.now.entries.items in
    let number = number_is c.project_of-in-Remove.result c.len-count.result c.args.state.now.projects.items c.in-Remove.project c.project_of-in-Remove.ensures (c.len-count.ensures ∙ c.args.state.now.projects.ok.0) in
    done_of c.remove.result h c.remove.new.state.entries.items c.args.stamp (outcome_of s h c.args.request)
    (reply_is c.remove.result h (in_project c.project_of-in-Remove.result (removed s h c.in-Remove.name)) (outcome_of s h c.args.request) (ap (λ n. in_project n (removed s h c.in-Remove.name)) number ∙ ap (outcome_of s h) (sym c.in-Remove.is)) c.remove.ensures.reply)
    (added_is c.remove.result h (in_project c.project_of-in-Remove.result (removed s h c.in-Remove.name)) (outcome_of s h c.args.request) (ap (λ n. in_project n (removed s h c.in-Remove.name)) number ∙ ap (outcome_of s h) (sym c.in-Remove.is)) c.remove.new.state.entries.items c.args.stamp c.remove.ensures.added)

pub set_rules-requires-clause-number : goal.set_rules-requires-clause-number
set_rules-requires-clause-number c =
    number_there c.project_of-in-SetRules.result c.args.state.now.projects.items c.in-SetRules.project
    (number_is c.project_of-in-SetRules.result c.len-count.result c.args.state.now.projects.items c.in-SetRules.project c.project_of-in-SetRules.ensures (c.len-count.ensures ∙ c.args.state.now.projects.ok.0))

pub returns-in-SetRules-clause-done : goal.returns-in-SetRules-clause-done
returns-in-SetRules-clause-done c =
    let s = (settings_of c.args.state.now) in
    let h = c.args.state.now.entries.items in
    let number = number_is c.project_of-in-SetRules.result c.len-count.result c.args.state.now.projects.items c.in-SetRules.project c.project_of-in-SetRules.ensures (c.len-count.ensures ∙ c.args.state.now.projects.ok.0) in
    done_of c.set_rules.result h c.set_rules.new.state.entries.items c.args.stamp (outcome_of s h c.args.request)
    (reply_is c.set_rules.result h (in_project c.project_of-in-SetRules.result (changed s h (change.SetRules c.in-SetRules.rules c.in-SetRules.weight))) (outcome_of s h c.args.request) (ap (λ n. in_project n (changed s h (change.SetRules c.in-SetRules.rules c.in-SetRules.weight))) number ∙ ap (outcome_of s h) (sym c.in-SetRules.is)) c.set_rules.ensures.reply)
    (added_is c.set_rules.result h (in_project c.project_of-in-SetRules.result (changed s h (change.SetRules c.in-SetRules.rules c.in-SetRules.weight))) (outcome_of s h c.args.request) (ap (λ n. in_project n (changed s h (change.SetRules c.in-SetRules.rules c.in-SetRules.weight))) number ∙ ap (outcome_of s h) (sym c.in-SetRules.is)) c.set_rules.new.state.entries.items c.args.stamp c.set_rules.ensures.added)

pub read_version-requires-clause-number : goal.read_version-requires-clause-number
read_version-requires-clause-number c =
    number_there c.project_of-in-ReadVersion.result c.args.state.now.projects.items c.in-ReadVersion.project
    (number_is c.project_of-in-ReadVersion.result c.len-count.result c.args.state.now.projects.items c.in-ReadVersion.project c.project_of-in-ReadVersion.ensures (c.len-count.ensures ∙ c.args.state.now.projects.ok.0))

pub returns-in-ReadVersion-clause-done : goal.returns-in-ReadVersion-clause-done
returns-in-ReadVersion-clause-done c =
    let s = (settings_of c.args.state.now) in
    let h = c.args.state.now.entries.items in
    let number = number_is c.project_of-in-ReadVersion.result c.len-count.result c.args.state.now.projects.items c.in-ReadVersion.project c.project_of-in-ReadVersion.ensures (c.len-count.ensures ∙ c.args.state.now.projects.ok.0) in
    done_of c.read_version.result h h c.args.stamp (outcome_of s h c.args.request)
    (reply_is c.read_version.result h (in_project c.project_of-in-ReadVersion.result (version_read h c.in-ReadVersion.version)) (outcome_of s h c.args.request) (ap (λ n. in_project n (version_read h c.in-ReadVersion.version)) number ∙ ap (outcome_of s h) (sym c.in-ReadVersion.is)) c.read_version.ensures)
    (asked_is c.read_version.result h (in_project c.project_of-in-ReadVersion.result (version_read h c.in-ReadVersion.version)) (outcome_of s h c.args.request) (ap (λ n. in_project n (version_read h c.in-ReadVersion.version)) number ∙ ap (outcome_of s h) (sym c.in-ReadVersion.is)) h c.args.stamp refl (read_adds c.args.stamp h c.in-ReadVersion.version c.project_of-in-ReadVersion.result))

pub read_clashes-requires-clause-number : goal.read_clashes-requires-clause-number
read_clashes-requires-clause-number c =
    number_there c.project_of-in-ReadClashes.result c.args.state.now.projects.items c.in-ReadClashes.project
    (number_is c.project_of-in-ReadClashes.result c.len-count.result c.args.state.now.projects.items c.in-ReadClashes.project c.project_of-in-ReadClashes.ensures (c.len-count.ensures ∙ c.args.state.now.projects.ok.0))

pub returns-in-ReadClashes-clause-done : goal.returns-in-ReadClashes-clause-done
returns-in-ReadClashes-clause-done c =
    let s = (settings_of c.args.state.now) in
    let h = c.args.state.now.entries.items in
    let number = number_is c.project_of-in-ReadClashes.result c.len-count.result c.args.state.now.projects.items c.in-ReadClashes.project c.project_of-in-ReadClashes.ensures (c.len-count.ensures ∙ c.args.state.now.projects.ok.0) in
    done_of c.read_clashes.result h c.read_clashes.new.state.entries.items c.args.stamp (outcome_of s h c.args.request)
    (reply_is c.read_clashes.result h (in_project c.project_of-in-ReadClashes.result (clashes_read h c.in-ReadClashes.version c.in-ReadClashes.first c.in-ReadClashes.pairs)) (outcome_of s h c.args.request) (ap (λ n. in_project n (clashes_read h c.in-ReadClashes.version c.in-ReadClashes.first c.in-ReadClashes.pairs)) number ∙ ap (outcome_of s h) (sym c.in-ReadClashes.is)) c.read_clashes.ensures.reply)
    (asked_is c.read_clashes.result h (in_project c.project_of-in-ReadClashes.result (clashes_read h c.in-ReadClashes.version c.in-ReadClashes.first c.in-ReadClashes.pairs)) (outcome_of s h c.args.request) (ap (λ n. in_project n (clashes_read h c.in-ReadClashes.version c.in-ReadClashes.first c.in-ReadClashes.pairs)) number ∙ ap (outcome_of s h) (sym c.in-ReadClashes.is)) c.read_clashes.new.state.entries.items c.args.stamp c.read_clashes.ensures.entries (clashes_add c.args.stamp h c.in-ReadClashes.version c.in-ReadClashes.first c.in-ReadClashes.pairs c.project_of-in-ReadClashes.result))

pub returns-in-TakeWork-clause-done : goal.returns-in-TakeWork-clause-done
returns-in-TakeWork-clause-done c =
    let s = (settings_of c.args.state.now) in
    let h = c.args.state.now.entries.items in
    let os = all_orders (length c.args.state.now.projects.items) h in
    done_of c.take_work.result h h c.args.stamp (outcome_of s h c.args.request)
    (reply_is c.take_work.result h (order_for os c.in-TakeWork.seat) (outcome_of s h c.args.request) (ap (outcome_of s h) (sym c.in-TakeWork.is)) c.take_work.ensures)
    (asked_is c.take_work.result h (order_for os c.in-TakeWork.seat) (outcome_of s h c.args.request) (ap (outcome_of s h) (sym c.in-TakeWork.is)) h c.args.stamp refl (work_adds c.args.stamp os c.in-TakeWork.seat))

pub finish-requires-clause-given : goal.finish-requires-clause-given
finish-requires-clause-given c = subst (IsLegal (settings_of c.args.state.now) c.args.state.now.entries.items) c.in-Finish.is c.requires.legal

pub returns-in-Finish-clause-done : goal.returns-in-Finish-clause-done
returns-in-Finish-clause-done c =
    let s = (settings_of c.args.state.now) in
    let h = c.args.state.now.entries.items in
    let k = c.finish.new.state.entries.items in
    done_of c.finish.result h k c.args.stamp (outcome_of s h c.args.request)
    (reply_is c.finish.result h (finished h c.in-Finish.set) (outcome_of s h c.args.request) (ap (outcome_of s h) (sym c.in-Finish.is)) c.finish.ensures.reply)
    (added_is c.finish.result h (finished h c.in-Finish.set) (outcome_of s h c.args.request) (ap (outcome_of s h) (sym c.in-Finish.is)) k c.args.stamp c.finish.ensures.added)
