-- `generate` never answers 4, nor does a command that takes no words.
use Rattle.std.proofs.Common.{◌≡◌, ℕ, List, [], ◌∷◌, Bool, true, false, Option, Some, None, inl, inr, arith}
use Rattle.bim_io.specs.StreamViews.{SinkSeen}
use Rattle.batch_commands.specs.declared.generate_words.GenerateWords.{GenerateWords}
use Rattle.batch_commands.specs.BatchCommands.{Generates, GeneratesAs}
use Rattle.batch_commands.proofs.Blocks.{prints_not_four}
use Rattle.server_commands.specs.Commands.{PrintsAlone}

generates_as_not_four : (file : Bool) (number count : ℕ) (a b : SinkSeen) (status : ℕ) → GeneratesAs file number count a b status → status ≡ 4 → ⊥
generates_as_not_four true number count a b status prints = prints_not_four a b _ 0 status prints (λ e. omega (arith, e))
generates_as_not_four false number count a b status x = prints_not_four a b x.0 0 status x.2 (λ e. omega (arith, e))

pub generates_not_four : (said : Option GenerateWords) (a b : SinkSeen) (status : ℕ) → Generates said a b status → status ≡ 4 → ⊥
generates_not_four None a b status (inl usage) four = let two = usage.status_is in omega (arith, two, four)
generates_not_four None a b status (inr wants) four = let six = wants.status_is in omega (arith, six, four)
generates_not_four (Some said) a b status (inl by) four = generates_as_not_four said.file said.number said.count a b status by four
generates_not_four (Some said) a b status (inr wants) four = let six = wants.status_is in omega (arith, six, four)

pub alone_not_four : (words : List (List ℕ)) (text : List ℕ) (a b : SinkSeen) (status : ℕ) → PrintsAlone words text a b status → status ≡ 4 → ⊥
alone_not_four [] text a b status (inl whole) four = let zero = whole.0 in omega (arith, zero, four)
alone_not_four [] text a b status (inr less) four = let five = less.0 in omega (arith, five, four)
alone_not_four (word ∷ words) text a b status usage four = let two = usage.status_is in omega (arith, two, four)
