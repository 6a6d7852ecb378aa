-- For which bytes a framer stands.
use Rattle.std.specs.Prelude.{ℕ, Bool, List, Result}
use Rattle.http_frame.specs.declared.types.FrameStep.{FrameStep}
use Rattle.http_frame.specs.declared.types.FrameError.{FrameError}
use Rattle.http_frame.specs.declared.framer.Framer.{Framer}
use Rattle.http_frame.specs.FramerSteps.{Answers}
use Rattle.http_frame.specs.FramerStages.{StandsAt}

-- the framer stands for the bytes; told: the Continue of the first request was answered
unfoldable pub Stands : Framer → List ℕ → Bool → Type 0
Stands framer bytes told = StandsAt framer.stage framer.buf.items framer.at bytes told

-- what `next` answers, and the bytes that the framer stands for afterwards
abbrev pub Answered : List ℕ → Bool → Result FrameStep FrameError → Framer → Type 0
Answered bytes told answer framer =
    (rest : List ℕ) × (mark : Bool) × Answers bytes told answer rest mark × Stands framer rest mark
