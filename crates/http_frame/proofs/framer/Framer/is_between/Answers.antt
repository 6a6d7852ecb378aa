use Rattle.std.proofs.Common.{◌≡◌, ◌≤◌, length, drop, ◌∙◌, ap, subst, arith}
use Rattle.http_frame.specs.declared.stage.Stage.{Stage}
use Rattle.http_frame.specs.declared.field_lines.Spot.TheVariants.{Before}
use Rattle.http_frame.specs.Framers.{Stands}
use Rattle.http_frame.specs.Scan.{spot_run}
use Rattle.http_frame.specs.FramerStages.{StandsAt, is_before}
use Rattle.http_frame.proofs.Keeping.{safe_at, head_between, body_between, failed_between}
use Rattle.http_frame.proofs.framer.Framer.is_between.Goals as goal

pub tail-requires : goal.tail-requires
tail-requires c =
    let le : c.args.self.now.at ≤ length c.args.self.now.buf.items = safe_at c.args.self.now.stage c.args.self.now.buf.items c.args.self.now.at c.args.self.now.safe in
    let same : length c.deref.result.now ≡ length c.args.self.now.buf.items = ap length c.deref.ensures.value in omega arith

pub returns-in-Head : goal.returns-in-Head
unfolding Stands
returns-in-Head c = λ bytes told x rest.
    let y = subst (λ (s : Stage). StandsAt s c.args.self.now.buf.items c.args.self.now.at bytes told) c.in-Head.is x in
    head_between bytes c.args.self.now.buf.items c.args.self.now.at c.is_before.result y.1
    (c.is_before.ensures ∙ ap is_before (c.walk_on.ensures ∙ ap (spot_run Before) (c.tail.ensures ∙ ap (drop c.args.self.now.at) c.deref.ensures.value)))

pub returns-in-Body : goal.returns-in-Body
unfolding Stands
returns-in-Body c = λ bytes told x rest.
    body_between c.in-Body.field-0 c.args.self.now.buf.items c.args.self.now.at bytes told
    (subst (λ (s : Stage). StandsAt s c.args.self.now.buf.items c.args.self.now.at bytes told) c.in-Body.is x)

pub returns-in-Failed : goal.returns-in-Failed
unfolding Stands
returns-in-Failed c = λ bytes told x rest.
    failed_between c.in-Failed.field-0 c.args.self.now.buf.items c.args.self.now.at bytes told
    (subst (λ (s : Stage). StandsAt s c.args.self.now.buf.items c.args.self.now.at bytes told) c.in-Failed.is x) rest
