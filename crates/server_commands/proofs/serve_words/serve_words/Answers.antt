use Rattle.std.proofs.Common.{◌∙◌, sym, ap, map, subst}
use Rattle.clap.specs.Words.{App, app_of}
use Rattle.command_words.specs.CommandOptions.{IsPlainCommand}
use Rattle.command_words.proofs.Grammar.{words_refused}
use Rattle.server_commands.specs.ServeWords.{serve_command, serve_said}
use Rattle.server_commands.proofs.ServeGrammar.{serve_is_plain, words_served}
use Rattle.server_commands.proofs.serve_words.serve_words.Goals as goal

pub parse-requires : goal.parse-requires
parse-requires c = subst (λ (command : App). IsPlainCommand command) (sym c.in_ok-command.ensures) serve_is_plain

pub returns-in-Some-clause-words : goal.returns-in-Some-clause-words
returns-in-Some-clause-words c =
    words_served (app_of c.in_ok-command.command) _ _ c.in_ok-matches.field-0 c.in-Some.matches c.serve_said.result c.in_ok-command.ensures
    (ap (map (λ s. s.now)) c.as_slice.ensures.value ∙ c.in_ok-lent.ensures) c.in-Some.is c.in_ok-matches.ensures c.serve_said.ensures.said

pub returns-clause-words : goal.returns-clause-words
returns-clause-words c =
    words_refused serve_command serve_said (app_of c.in_ok-command.command) _ _ c.in_ok-matches.field-0 c.in_ok-command.ensures
    (ap (map (λ s. s.now)) c.as_slice.ensures.value ∙ c.in_ok-lent.ensures) c.in-None.is c.in_ok-matches.ensures
