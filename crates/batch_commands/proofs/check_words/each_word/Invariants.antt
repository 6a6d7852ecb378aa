use Rattle.std.proofs.Common.{◌≡◌, Some, map, take}
use Rattle.batch_commands.specs.CheckWords.{all_some, model_word}
use Rattle.batch_commands.proofs.check_words.each_word.Given as goal

abbrev pub invariant-loop-text : goal.invariant-loop-text
invariant-loop-text l = all_some (map model_word (take l.text-index (map (λ t. t.now) l.texts))) ≡ Some l.words.items
