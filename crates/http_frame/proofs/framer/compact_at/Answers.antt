use Rattle.std.proofs.Common.{subst, sym}
use Rattle.http_frame.specs.declared.stage.Stage.{Stage}
use Rattle.http_frame.specs.FramerStages.{Keeps, IsSafe}
use Rattle.http_frame.proofs.Keeping.{keeps_same, head_keeps, head_safe}
use Rattle.http_frame.proofs.framer.compact_at.Goals as goal

pub returns-in-Head-clause-keeps : goal.returns-in-Head-clause-keeps
returns-in-Head-clause-keeps c =
    subst (λ (s : Stage). Keeps s c.args.buf.now.items c.args.at c.compact.new.buf.items c.compact.result) (sym c.in-Head.is)
    (head_keeps c.in-Head.field-0 c.args.buf.now.items c.compact.new.buf.items c.args.at c.compact.result c.compact.ensures.bytes)

pub returns-in-Head-clause-safe : goal.returns-in-Head-clause-safe
returns-in-Head-clause-safe c =
    subst (λ (s : Stage). IsSafe s c.compact.new.buf.items c.compact.result) (sym c.in-Head.is)
    (head_safe c.in-Head.field-0 c.args.buf.now.items c.compact.new.buf.items c.args.at c.compact.result c.compact.ensures.place c.compact.ensures.bytes
    (subst (λ (s : Stage). IsSafe s c.args.buf.now.items c.args.at) c.in-Head.is c.requires))

pub returns-in-Body-clause-keeps : goal.returns-in-Body-clause-keeps
returns-in-Body-clause-keeps c = keeps_same c.args.stage.now c.args.buf.now.items c.args.at

pub returns-in-Failed-clause-keeps : goal.returns-in-Failed-clause-keeps
returns-in-Failed-clause-keeps c = keeps_same c.args.stage.now c.args.buf.now.items c.args.at
