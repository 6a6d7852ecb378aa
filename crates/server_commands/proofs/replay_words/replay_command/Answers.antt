use Rattle.std.proofs.Common.{◌≡◌, ◌∙◌, ap, codes}
use Rattle.std.proofs.lemmas.Result.{IfOk-weaker}
use Rattle.clap.specs.Words.{App, app_of, with_rule}
use Rattle.command_words.specs.CommandOptions.{bare_command, option_of}
use Rattle.server_commands.specs.ReplayWords.{replay_command}
use Rattle.server_commands.proofs.replay_words.replay_command.Goals as goal

pub returns : goal.returns
unfolding replay_command
returns c =
    let timed : app_of c.in_ok-timed.timed ≡ with_rule (bare_command (codes "replay")) (option_of (codes "at")) =
    c.in_ok-timed.ensures ∙ ap (λ (a : App). with_rule a (option_of (codes "at"))) c.plain_command-plain.ensures in
    let worked : app_of c.in_ok-worked.worked ≡ with_rule (with_rule (bare_command (codes "replay")) (option_of (codes "at"))) (option_of (codes "buckets")) =
    c.in_ok-worked.ensures ∙ ap (λ (a : App). with_rule a (option_of (codes "buckets"))) timed in
    IfOk-weaker c.with_option-3.result _ _ (λ made is. is ∙ ap (λ (a : App). with_rule a (option_of (codes "projects"))) worked) c.with_option-3.ensures
