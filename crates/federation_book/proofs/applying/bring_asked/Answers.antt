use Rattle.book_history.specs.Requests.{entry_of}
use Rattle.book_history.proofs.Again.{brought_by}
use Rattle.federation_book.specs.KeptProjects.{settings_of}
use Rattle.federation_book.proofs.Brought.{legal_for}
use Rattle.federation_book.proofs.applying.bring_asked.Goals as goal

pub act_on-requires-clause-legal : goal.act_on-requires-clause-legal
act_on-requires-clause-legal c =
    (legal_for (settings_of c.args.state.now) c.args.state.now.entries.items c.args.project c.args.change c.request_for-request.result c.request_for-request.ensures).0

pub returns-clause-brought : goal.returns-clause-brought
returns-clause-brought c =
    brought_by (settings_of c.args.state.now) c.args.state.now.entries.items c.act_on.new.state.entries.items
    (entry_of c.args.stamp c.args.project c.args.change) c.request_for-request.result c.request_for-request.ensures
    c.in_ok-body.ensures.done.added
