use Rattle.std.proofs.Common.{◌∙◌, sym, ap, map, subst}
use Rattle.clap.specs.Words.{App, app_of}
use Rattle.command_words.specs.CommandOptions.{IsPlainCommand}
use Rattle.command_words.proofs.Grammar.{words_refused, words_said}
use Rattle.batch_commands.specs.GenerateWords.{generate_command, generate_said}
use Rattle.batch_commands.proofs.Plain.{generate_is_plain}
use Rattle.batch_commands.proofs.generate_words.generate_words.Goals as goal

pub parse-requires : goal.parse-requires
parse-requires c = subst (λ (command : App). IsPlainCommand command) (sym c.in_ok-command.ensures) generate_is_plain

pub returns-in-Some-clause-words : goal.returns-in-Some-clause-words
returns-in-Some-clause-words c =
    words_said generate_command generate_said (app_of c.in_ok-command.command) _ _ c.in_ok-matches.field-0 c.in-Some.matches c.generate_said.result c.in_ok-command.ensures
    (ap (map (λ s. s.now)) c.as_slice.ensures.value ∙ c.in_ok-lent.ensures) c.in-Some.is c.in_ok-matches.ensures c.generate_said.ensures.said

pub returns-clause-words : goal.returns-clause-words
returns-clause-words c =
    words_refused generate_command generate_said (app_of c.in_ok-command.command) _ _ c.in_ok-matches.field-0 c.in_ok-command.ensures
    (ap (map (λ s. s.now)) c.as_slice.ensures.value ∙ c.in_ok-lent.ensures) c.in-None.is c.in_ok-matches.ensures
