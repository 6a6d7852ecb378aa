use Rattle.std.proofs.Common.{◌∙◌, option_map}
use Rattle.clap.specs.Words.{found_of}
use Rattle.server_commands.proofs.Grammar.{values_said}
use Rattle.server_commands.proofs.replay_words.replay_said.Goals as goal

pub returns-clause-said : goal.returns-clause-said
returns-clause-said c =
    c.all_said.ensures.said
    ∙ values_said (found_of c.args.matches.now) (option_map (λ s. s.now) c.get_str.result) (option_map (λ s. s.now) c.get_str-2.result)
    (option_map (λ s. s.now) c.get_str-3.result) c.time_said-time.result c.buckets_said-buckets.result c.projects_said-projects.result
    c.get_str.ensures c.get_str-2.ensures c.get_str-3.ensures c.time_said-time.ensures.said c.buckets_said-buckets.ensures c.projects_said-projects.ensures.said
