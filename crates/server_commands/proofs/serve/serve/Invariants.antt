use Rattle.server_commands.specs.ServeCommand.{service_of}
use Rattle.server_commands.proofs.serve.serve.Given as goal

abbrev pub ghosts-serve_doors : goal.ghosts-serve_doors
ghosts-serve_doors g a = record { service = service_of a.counts (g.H.Host.seen a.host.now) }
