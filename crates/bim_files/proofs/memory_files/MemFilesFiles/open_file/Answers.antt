use Rattle.std.proofs.Common.{sym}
use Rattle.bim_files.proofs.memory_files.MemFilesFiles.open_file.Goals as goal

pub returns-in-Some-clause-there : goal.returns-in-Some-clause-there
returns-in-Some-clause-there c = rw (← c.self.view_is) (λ none. sym (c.in-Some.ensures.there none))
