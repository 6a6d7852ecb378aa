use Rattle.std.proofs.Common.{◌≡◌, ◌∙◌, ap, codes}
use Rattle.std.proofs.lemmas.Result.{IfOk-weaker}
use Rattle.clap.specs.Words.{App, app_of, with_rule}
use Rattle.command_words.specs.CommandOptions.{bare_command, flag_of, option_of}
use Rattle.batch_commands.specs.GenerateWords.{generate_command}
use Rattle.batch_commands.proofs.generate_words.generate_command.Goals as goal

pub returns : goal.returns
unfolding generate_command
returns c =
    let counted : app_of c.in_ok-counted.counted ≡ with_rule (bare_command (codes "generate")) (option_of (codes "count")) =
    c.in_ok-counted.ensures ∙ ap (λ (a : App). with_rule a (option_of (codes "count"))) c.plain_command-plain.ensures in
    let numbered : app_of c.in_ok-numbered.numbered ≡ with_rule (with_rule (bare_command (codes "generate")) (option_of (codes "count"))) (option_of (codes "number")) =
    c.in_ok-numbered.ensures ∙ ap (λ (a : App). with_rule a (option_of (codes "number"))) counted in
    IfOk-weaker c.with_flag.result _ _ (λ made is. is ∙ ap (λ (a : App). with_rule a (flag_of (codes "file"))) numbered) c.with_flag.ensures
