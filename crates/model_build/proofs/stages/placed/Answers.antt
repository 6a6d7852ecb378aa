use Rattle.ifc_elements.proofs.CasesOfAnswers.{of_none}
use Rattle.model_build.proofs.ElementsReady.{elements_ready}
use Rattle.model_build.proofs.FramesThere.{none_lacks}
use Rattle.model_build.proofs.stages.placed.Goals as goal

pub unreachable-requires : goal.unreachable-requires
unreachable-requires c = none_lacks c.args.file.now c.requires.measured (of_none _ _ c.in_ok-frames.field-0 c.in_default.is c.in_ok-frames.ensures)

pub model_of-requires-clause-ready : goal.model_of-requires-clause-ready
model_of-requires-clause-ready c = elements_ready c.args.file.now c.requires.measured
