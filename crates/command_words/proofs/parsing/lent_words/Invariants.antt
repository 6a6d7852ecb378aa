use Rattle.std.proofs.Common.{◌≡◌, map, take}
use Rattle.command_words.proofs.parsing.lent_words.Given as goal

abbrev pub invariant-loop-word : goal.invariant-loop-word
invariant-loop-word l = map (λ s. s.now) l.lent.items ≡ take l.word-index l.words
