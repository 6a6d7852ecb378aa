use Rattle.std.proofs.Common.{◌≡◌, ◌+◌}
use Rattle.book_history.specs.History.{IsBefore}
use Rattle.server_commands.specs.inner.BucketWork.{WorksTimes}
use Rattle.server_commands.proofs.one_thread.OneThread.work_up_to.Given as goal

abbrev pub invariant-loop-done : goal.invariant-loop-done
invariant-loop-done l = record {
  worked : WorksTimes l.initial.self l._done l.self;
  before : IsBefore (l.self.turns + 1) l.self.history;
  settings : l.self.settings ≡ l.initial.self.settings;
}
