use Rattle.std.proofs.Common.{sym, subst}
use Rattle.http_frame.specs.declared.stage.Stage.{Stage}
use Rattle.http_frame.specs.Framers.{Stands}
use Rattle.http_frame.specs.FramerStages.{Steps, StandsAt, IsSafe}
use Rattle.http_frame.proofs.framer.Framer.next.Goals as goal

pub step-stepped-requires : goal.step-stepped-requires
step-stepped-requires c =
    subst (λ (s : Stage). IsSafe s c.args.self.now.buf.items c.args.self.now.at) (sym c.replace-stage.ensures.value) c.args.self.now.safe

pub returns : goal.returns
unfolding Stands Steps
returns c = λ bytes told x.
    c.step-stepped.ensures.step bytes told (subst (λ (s : Stage). StandsAt s c.args.self.now.buf.items c.args.self.now.at bytes told) (sym c.replace-stage.ensures.value) x)
