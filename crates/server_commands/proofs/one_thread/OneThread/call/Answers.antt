use Rattle.std.proofs.Common.{◌≡◌, ◌+◌, arith}
use Rattle.server_commands.specs.inner.Turns.{ServerState}
use Rattle.server_commands.proofs.Giving.{calls_ok}
use Rattle.server_commands.proofs.one_thread.OneThread.call.Goals as goal

pub returns-clause-receipt : goal.returns-clause-receipt
returns-clause-receipt c =
    let own : ServerState = record { settings = c.self.inside.book.settings; history = c.self.inside.book.journal; turns = c.self.inside.turns } in
    let next : c.in-Some.turn ≡ c.self.inside.turns + 1 = omega arith in
    rw (← c.self.view_is)
    (calls_ok c.args.call own c.act.new.self.settings c.act.new.self.journal c.in-Some.turn c.in_ok-reply.reply next
    c.in_ok-reply.ensures.reply c.in_ok-reply.ensures.added c.in_ok-reply.ensures.settings)
