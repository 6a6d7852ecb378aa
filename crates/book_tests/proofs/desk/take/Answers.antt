use Rattle.std.proofs.Common.{◌≡◌, ◌∙◌, sym, ap}
use Rattle.book_history.specs.declared.replies.BookReply.{BookReply}
use Rattle.book_history.specs.declared.replies.ReplyBody.TheVariants as reply
use Rattle.book_history.proofs.Given.{given_out}
use Rattle.federation_book.proofs.Acting.{given_after}
use Rattle.book_tests.proofs.desk.take.Goals as goal

pub returns-clause-given : goal.returns-clause-given
returns-clause-given g c =
    given_after c.args.book.now c.act.new.self _ c.in_ok-body.ensures.settings c.in_ok-body.ensures.added c.into_work-work.result
    (given_out c.args.book.now.settings c.args.book.now.journal c.args.seat c.into_work-work.result
    (sym (ap (λ (r : BookReply). r.body) c.in_ok-body.ensures.reply) ∙ c.in-Work.is ∙ ap reply.Work (sym c.into_work-work.ensures.order))
    c.into_work-work.ensures.bucket)

pub returns-clause-stays : goal.returns-clause-stays
returns-clause-stays g c = given_after c.args.book.now c.act.new.self _ c.in_ok-body.ensures.settings c.in_ok-body.ensures.added
