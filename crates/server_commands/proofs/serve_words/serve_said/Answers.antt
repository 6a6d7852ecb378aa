use Rattle.std.proofs.Common.{option_map}
use Rattle.clap.specs.Words.{found_of}
use Rattle.server_commands.proofs.ServeGrammar.{values_said}
use Rattle.server_commands.proofs.serve_words.serve_said.Goals as goal

pub returns-clause-said : goal.returns-clause-said
returns-clause-said c =
    values_said (found_of c.args.matches.now) (option_map (λ s. s.now) c.get_str.result) c.in_ok-addr.addr c.in-Some.counts
    c.get_str.ensures c.in_ok-addr.ensures _ c.in-Some.is c.counts_said.ensures.said
