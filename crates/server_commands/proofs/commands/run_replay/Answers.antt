use Rattle.std.proofs.Common.{Option, inl, inr, refl, subst, arith}
use Rattle.bim_io.specs.StreamViews.{outside}
use Rattle.server_commands.specs.declared.replay_words.ReplayWords.{ReplayWords}
use Rattle.server_commands.specs.Commands.{Does}
use Rattle.batch_commands.proofs.Answered.{unread_status, unwritten_status}
use Rattle.server_commands.proofs.commands.run_replay.Goals as goal

pub returns-in-Ok-Some-clause-does : goal.returns-in-Ok-Some-clause-does
returns-in-Ok-Some-clause-does g c =
    let words = rw c.in-Ok-Some.field-0-is at c.in-Ok-Some.ensures.words in
    subst (λ (said : Option ReplayWords). Does said (outside (g.S.Source.seen c.args.source.now) (g.K.Sink.seen c.args.sink.now) (g.C.Clock.seen c.args.clock.now))
    (outside (g.S.Source.seen c.replay.new.source) (g.K.Sink.seen c.replay.new.sink) (g.C.Clock.seen c.replay.new.clock)) c.replay.result) words
    (inl c.replay.ensures.does)

pub returns-in-Ok-None-clause-does : goal.returns-in-Ok-None-clause-does
returns-in-Ok-None-clause-does g c =
    let words = rw c.in-Ok-None.field-0-is at c.in-Ok-None.ensures.words in
    subst (λ (said : Option ReplayWords). Does said (outside (g.S.Source.seen c.args.source.now) (g.K.Sink.seen c.args.sink.now) (g.C.Clock.seen c.args.clock.now))
    (outside (g.S.Source.seen c.args.source.now) (g.K.Sink.seen c.print_usage.new.sink) (g.C.Clock.seen c.args.clock.now)) c.print_usage.result) words
    (inl (c.print_usage.ensures, (refl, refl)))

pub returns-in-Ok-None-clause-read : goal.returns-in-Ok-None-clause-read
returns-in-Ok-None-clause-read g c =
    unread_status _ c.print_usage.result 2 c.print_usage.ensures.status_is (λ e. omega (arith, e))

pub returns-in-Ok-None-clause-write : goal.returns-in-Ok-None-clause-write
returns-in-Ok-None-clause-write g c =
    unwritten_status _ _ c.print_usage.result 2 c.print_usage.ensures.status_is (λ e. omega (arith, e))

pub returns-in-Err-clause-does : goal.returns-in-Err-clause-does
returns-in-Err-clause-does g c = inr (record { status_is = refl; same = refl }, (refl, refl))

pub returns-in-Err-clause-read : goal.returns-in-Err-clause-read
returns-in-Err-clause-read g c = unread_status _ 6 6 refl (λ e. omega (arith, e))

pub returns-in-Err-clause-write : goal.returns-in-Err-clause-write
returns-in-Err-clause-write g c = unwritten_status _ _ 6 6 refl (λ e. omega (arith, e))
