use Rattle.std.proofs.Common.{◌∙◌, map}
use Rattle.clap.specs.Words.{app_of}
use Rattle.command_words.proofs.Grammar.{found_matches, found_nothing}
use Rattle.command_words.proofs.parsing.parse.Goals as goal

pub returns-in-Ok : goal.returns-in-Ok
returns-in-Ok c =
    found_matches (app_of c.args.command) (map (λ s. s.now) c.args.words.now) c.in-Ok.matches c.requires (c.in-Ok.ensures.kinds c.requires.simple)
    c.in-Ok.ensures.matches

pub returns : goal.returns
returns c =
    found_nothing (app_of c.args.command) (map (λ s. s.now) c.args.words.now) c.in-Err.error c.in-Err.ensures.passes
    (λ memory. c.in_default.not-OutOfMemory (c.kind.ensures ∙ memory))
