use Rattle.std.proofs.Common.{◌∙◌, sym, ap}
use Rattle.server_commands.specs.declared.serve.Ended.{Ended}
use Rattle.server_commands.proofs.Serving.{usage_alone, never_five}
use Rattle.server_commands.proofs.commands.run.Goals as goal

pub say_usage-requires : goal.say_usage-requires
say_usage-requires g c = usage_alone _ (g.H.Host.seen c.args.host.now) (g.H.Host.seen c.run_serve-ended.new.host) c.run_serve-ended.result c.run_serve-ended.ensures.does

pub returns-then-is_word-clause-write : goal.returns-then-is_word-clause-write
returns-then-is_word-clause-write g c =
    λ five. absurd (never_five _ (g.H.Host.seen c.args.host.now) (g.H.Host.seen c.run_serve-ended.new.host) c.run_serve-ended.result c.run_serve-ended.ensures.does
    (sym (ap (λ (e : Ended). e.status) c.say_usage.ensures.same) ∙ five))
