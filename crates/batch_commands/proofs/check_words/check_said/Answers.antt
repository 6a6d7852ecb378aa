use Rattle.std.proofs.Common.{◌∙◌, map, option_map}
use Rattle.std.proofs.lemmas.Result.{IfOk-weaker}
use Rattle.clap.specs.Words.{found_of}
use Rattle.batch_commands.proofs.Saying.{check_by}
use Rattle.batch_commands.proofs.check_words.check_said.Goals as goal

pub returns : goal.returns
returns c =
    IfOk-weaker c.all_said.result _ _ (λ said is. is ∙ check_by (found_of c.args.matches.now) (option_map (λ s. s.now) c.get_str-rules.result) (option_map (λ s. s.now) c.get_str.result)
    (option_map (λ s. map (λ t. t.now) s.now) c.get_strs.result) c.mode_said-mode.result c.in_ok-models.models
    c.get_str-rules.ensures c.get_str.ensures c.get_strs.ensures c.mode_said-mode.ensures c.in_ok-models.ensures) c.all_said.ensures
