use Rattle.server_commands.specs.declared.about.TheConstants.{HELP, VERSION_LINE}
use Rattle.server_commands.proofs.Statuses.{alone_not_four, generates_not_four}
use Rattle.server_commands.proofs.commands.run_other.Goals as goal

pub returns-then-is_word-3-clause-read : goal.returns-then-is_word-3-clause-read
returns-then-is_word-3-clause-read g c = λ four. absurd (generates_not_four _ _ _ c.run_generate.result c.run_generate.ensures.does four)

pub returns-then-is_word-4-clause-read : goal.returns-then-is_word-4-clause-read
returns-then-is_word-4-clause-read g c = λ four. absurd (alone_not_four _ VERSION_LINE.now _ _ c.print_alone.result c.print_alone.ensures.does four)

pub returns-then-is_word-5-clause-read : goal.returns-then-is_word-5-clause-read
returns-then-is_word-5-clause-read g c =
    λ four. absurd (alone_not_four _ HELP.now _ _ c.print_alone-then-is_word-5.result c.print_alone-then-is_word-5.ensures.does four)
