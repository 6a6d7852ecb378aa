use Rattle.std.proofs.Common.{Option, inl, inr, subst, refl, arith}
use Rattle.server_commands.specs.declared.serve_words.ServeWords.{ServeWords}
use Rattle.server_commands.specs.ServeCommand.{ServesBy}
use Rattle.server_commands.proofs.Serving.{none_spent, served_fault, without_four}
use Rattle.server_commands.proofs.serve.run_serve.Goals as goal

pub returns-in-Ok-Some-clause-does : goal.returns-in-Ok-Some-clause-does
returns-in-Ok-Some-clause-does g c =
    let words = rw c.in-Ok-Some.field-0-is at c.in-Ok-Some.ensures.words in
    subst (λ (said : Option ServeWords). ServesBy said (g.H.Host.seen c.args.host.now) (g.H.Host.seen c.serve.new.host) c.serve.result) words (inl c.serve.ensures.served)

pub returns-in-Ok-Some-clause-failed : goal.returns-in-Ok-Some-clause-failed
returns-in-Ok-Some-clause-failed g c = served_fault _ (g.H.Host.seen c.args.host.now) (g.H.Host.seen c.serve.new.host) c.serve.result c.serve.ensures.served

pub returns-in-Ok-None-clause-does : goal.returns-in-Ok-None-clause-does
returns-in-Ok-None-clause-does g c =
    let words = rw c.in-Ok-None.field-0-is at c.in-Ok-None.ensures.words in
    subst (λ (said : Option ServeWords). ServesBy said (g.H.Host.seen c.args.host.now) (g.H.Host.seen c.args.host.now) c.of.result) words (inl (c.of.ensures, refl))

pub returns-in-Ok-None-clause-failed : goal.returns-in-Ok-None-clause-failed
returns-in-Ok-None-clause-failed g c = without_four (g.H.Host.seen c.args.host.now) (g.H.Host.seen c.args.host.now) c.of.result 2 (λ e. omega (arith, e)) c.of.ensures

pub returns-in-Ok-None-clause-spent : goal.returns-in-Ok-None-clause-spent
returns-in-Ok-None-clause-spent g c = none_spent 2 c.of.result (λ e. omega (arith, e)) c.of.ensures

pub returns-in-Err-clause-does : goal.returns-in-Err-clause-does
returns-in-Err-clause-does g c = inr (c.of-in-Err.ensures, refl)

pub returns-in-Err-clause-failed : goal.returns-in-Err-clause-failed
returns-in-Err-clause-failed g c = without_four (g.H.Host.seen c.args.host.now) (g.H.Host.seen c.args.host.now) c.of-in-Err.result 6 (λ e. omega (arith, e)) c.of-in-Err.ensures

pub returns-in-Err-clause-spent : goal.returns-in-Err-clause-spent
returns-in-Err-clause-spent g c = none_spent 6 c.of-in-Err.result (λ e. omega (arith, e)) c.of-in-Err.ensures
