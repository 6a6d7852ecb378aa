-- The two commands are plain: what a parse finds in words is known.
use Rattle.std.proofs.Common.{refl}
use Rattle.command_words.specs.CommandOptions.{IsPlainCommand}
use Rattle.batch_commands.specs.CheckWords.{check_command}
use Rattle.batch_commands.specs.GenerateWords.{generate_command}

pub check_is_plain : IsPlainCommand check_command
unfolding check_command
check_is_plain = record { simple = refl; alone = refl; defaults = refl }

pub generate_is_plain : IsPlainCommand generate_command
unfolding generate_command
generate_is_plain = record { simple = refl; alone = refl; defaults = refl }
