use Rattle.std.proofs.Common.{◌∙◌, option_map}
use Rattle.clap.specs.Words.{found_of}
use Rattle.server_commands.proofs.ServeGrammar.{values_counted}
use Rattle.server_commands.proofs.serve_words.counts_said.Goals as goal

pub returns-clause-said : goal.returns-clause-said
returns-clause-said c =
    c.all_counted.ensures.said
    ∙ values_counted (found_of c.args.matches.now) (option_map (λ s. s.now) c.get_str.result) (option_map (λ s. s.now) c.get_str-2.result)
    (option_map (λ s. s.now) c.get_str-3.result) (option_map (λ s. s.now) c.get_str-4.result)
    c.number_or-lanes.result c.number_or-workers.result c.number_or-links.result c.projects_said-projects.result
    c.get_str.ensures c.get_str-2.ensures c.get_str-3.ensures c.get_str-4.ensures
    c.number_or-lanes.ensures.said c.number_or-workers.ensures.said c.number_or-links.ensures.said c.projects_said-projects.ensures.said
