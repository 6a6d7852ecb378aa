use Rattle.std.proofs.Common.{◌∙◌, sym, ap, map, subst}
use Rattle.clap.specs.Words.{App, app_of}
use Rattle.command_words.specs.CommandOptions.{IsPlainCommand}
use Rattle.command_words.proofs.Grammar.{words_refused, words_said}
use Rattle.server_commands.specs.ReplayWords.{replay_command, replay_said}
use Rattle.server_commands.proofs.Grammar.{replay_is_plain}
use Rattle.server_commands.proofs.replay_words.replay_words.Goals as goal

pub parse-requires : goal.parse-requires
parse-requires c = subst (λ (command : App). IsPlainCommand command) (sym c.in_ok-command.ensures) replay_is_plain

pub returns-in-Some-clause-words : goal.returns-in-Some-clause-words
returns-in-Some-clause-words c =
    words_said replay_command replay_said (app_of c.in_ok-command.command) _ _ c.in_ok-matches.field-0 c.in-Some.matches c.replay_said.result c.in_ok-command.ensures
    (ap (map (λ s. s.now)) c.as_slice.ensures.value ∙ c.in_ok-lent.ensures) c.in-Some.is c.in_ok-matches.ensures c.replay_said.ensures.said

pub returns-clause-words : goal.returns-clause-words
returns-clause-words c =
    words_refused replay_command replay_said (app_of c.in_ok-command.command) _ _ c.in_ok-matches.field-0 c.in_ok-command.ensures
    (ap (map (λ s. s.now)) c.as_slice.ensures.value ∙ c.in_ok-lent.ensures) c.in-None.is c.in_ok-matches.ensures
