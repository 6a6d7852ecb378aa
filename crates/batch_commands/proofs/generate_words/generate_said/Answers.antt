use Rattle.std.proofs.Common.{◌∙◌, option_map}
use Rattle.clap.specs.Words.{found_of}
use Rattle.batch_commands.proofs.Saying.{generate_by}
use Rattle.batch_commands.proofs.generate_words.generate_said.Goals as goal

pub returns-clause-said : goal.returns-clause-said
returns-clause-said c =
    c.both_said.ensures.said
    ∙ generate_by (found_of c.args.matches.now) (option_map (λ s. s.now) c.get_str.result) (option_map (λ s. s.now) c.get_str-2.result) (option_map (λ s. s.now) c.get_str-3.result)
    c.count_said-count.result c.number_said-number.result c.file_said-file.result
    c.get_str.ensures c.get_str-2.ensures c.get_str-3.ensures c.count_said-count.ensures.said c.number_said-number.ensures c.file_said-file.ensures
