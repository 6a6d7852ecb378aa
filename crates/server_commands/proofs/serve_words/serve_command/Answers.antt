use Rattle.std.proofs.Common.{◌≡◌, ◌∙◌, ap, codes}
use Rattle.std.proofs.lemmas.Result.{IfOk-weaker}
use Rattle.clap.specs.Words.{App, app_of, with_rule}
use Rattle.command_words.specs.CommandOptions.{bare_command, option_of}
use Rattle.server_commands.specs.ServeWords.{serve_command}
use Rattle.server_commands.proofs.serve_words.serve_command.Goals as goal

pub returns : goal.returns
unfolding serve_command
returns c =
    let bound : app_of c.in_ok-bound.bound ≡ with_rule (bare_command (codes "serve")) (option_of (codes "addr")) =
    c.in_ok-bound.ensures ∙ ap (λ (a : App). with_rule a (option_of (codes "addr"))) c.plain_command-plain.ensures in
    let laned : app_of c.in_ok-laned.laned ≡ with_rule (with_rule (bare_command (codes "serve")) (option_of (codes "addr"))) (option_of (codes "lanes")) =
    c.in_ok-laned.ensures ∙ ap (λ (a : App). with_rule a (option_of (codes "lanes"))) bound in
    let worked = c.in_ok-worked.ensures ∙ ap (λ (a : App). with_rule a (option_of (codes "workers"))) laned in
    let limited = c.in_ok-limited.ensures ∙ ap (λ (a : App). with_rule a (option_of (codes "links"))) worked in
    IfOk-weaker c.with_option-5.result _ _ (λ made is. is ∙ ap (λ (a : App). with_rule a (option_of (codes "projects"))) limited) c.with_option-5.ensures
