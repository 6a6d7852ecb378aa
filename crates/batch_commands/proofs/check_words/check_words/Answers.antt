use Rattle.std.proofs.Common.{◌∙◌, sym, ap, map, subst}
use Rattle.std.proofs.lemmas.Result.{IfOk-weaker}
use Rattle.clap.specs.Words.{App, app_of}
use Rattle.command_words.specs.CommandOptions.{IsPlainCommand}
use Rattle.command_words.proofs.Grammar.{words_refused, words_said}
use Rattle.batch_commands.specs.CheckWords.{check_command, check_said}
use Rattle.batch_commands.proofs.Plain.{check_is_plain}
use Rattle.batch_commands.proofs.check_words.check_words.Goals as goal

pub parse-requires : goal.parse-requires
parse-requires c = subst (λ (command : App). IsPlainCommand command) (sym c.in_ok-command.ensures) check_is_plain

pub returns-in-Some : goal.returns-in-Some
returns-in-Some c =
    IfOk-weaker c.check_said.result _ _ (λ said is. words_said check_command check_said (app_of c.in_ok-command.command) _ _ c.in_ok-matches.field-0 c.in-Some.matches said c.in_ok-command.ensures
    (ap (map (λ s. s.now)) c.as_slice.ensures.value ∙ c.in_ok-lent.ensures) c.in-Some.is c.in_ok-matches.ensures is) c.check_said.ensures

pub returns : goal.returns
returns c =
    words_refused check_command check_said (app_of c.in_ok-command.command) _ _ c.in_ok-matches.field-0 c.in_ok-command.ensures
    (ap (map (λ s. s.now)) c.as_slice.ensures.value ∙ c.in_ok-lent.ensures) c.in-None.is c.in_ok-matches.ensures
