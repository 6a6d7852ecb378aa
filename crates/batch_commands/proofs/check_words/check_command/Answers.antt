use Rattle.std.proofs.Common.{◌≡◌, ◌∙◌, ap, codes}
use Rattle.std.proofs.lemmas.Result.{IfOk-weaker}
use Rattle.clap.specs.Words.{App, app_of, with_rule}
use Rattle.command_words.specs.CommandOptions.{bare_command, list_of, option_of}
use Rattle.batch_commands.specs.CheckWords.{check_command}
use Rattle.batch_commands.proofs.check_words.check_command.Goals as goal

pub returns : goal.returns
unfolding check_command
returns c =
    let ruled : app_of c.in_ok-ruled.ruled ≡ with_rule (bare_command (codes "check")) (option_of (codes "rules")) =
    c.in_ok-ruled.ensures ∙ ap (λ (a : App). with_rule a (option_of (codes "rules"))) c.plain_command-plain.ensures in
    let meshed : app_of c.in_ok-meshed.meshed ≡ with_rule (with_rule (bare_command (codes "check")) (option_of (codes "rules"))) (option_of (codes "grid")) =
    c.in_ok-meshed.ensures ∙ ap (λ (a : App). with_rule a (option_of (codes "grid"))) ruled in
    IfOk-weaker c.with_list.result _ _ (λ made is. is ∙ ap (λ (a : App). with_rule a (list_of (codes "models"))) meshed) c.with_list.ensures
