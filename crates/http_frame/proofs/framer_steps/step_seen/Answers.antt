use Rattle.std.proofs.Common.{drop, ◌+◌, subst, sym}
use Rattle.http_frame.specs.declared.seen.Seen.{Seen}
use Rattle.http_frame.specs.declared.stage.Pending.{Pending}
use Rattle.http_frame.specs.declared.stage.Stage.TheVariants.{Head, Body}
use Rattle.http_frame.specs.inner.RequestHeads.{IsSeen}
use Rattle.http_frame.specs.FramerStages.{pending_of, Steps, IsSafe}
use Rattle.http_frame.proofs.Standing.{steps_after, more_head, fault_head, good_stands}
use Rattle.http_frame.proofs.Keeping.{seen_safe, good_safe}
use Rattle.http_frame.proofs.framer_steps.step_seen.Goals as goal

pub returns-in-Unfinished-clause-step : goal.returns-in-Unfinished-clause-step
returns-in-Unfinished-clause-step c = more_head c.args.watch c.in-Unfinished.next c.args.buf.now.items c.args.at (subst (λ (s : Seen). IsSeen (drop c.args.at c.args.buf.now.items) s) c.in-Unfinished.is c.requires.seen)

pub returns-in-Unfinished-clause-safe : goal.returns-in-Unfinished-clause-safe
returns-in-Unfinished-clause-safe c = seen_safe c.in-Unfinished.next c.args.buf.now.items c.args.at c.requires.at (subst (λ (s : Seen). IsSeen (drop c.args.at c.args.buf.now.items) s) c.in-Unfinished.is c.requires.seen)

pub returns-in-Fault-clause-step : goal.returns-in-Fault-clause-step
returns-in-Fault-clause-step c = fault_head c.args.watch c.in-Fault.fault c.args.buf.now.items c.args.at (subst (λ (s : Seen). IsSeen (drop c.args.at c.args.buf.now.items) s) c.in-Fault.is c.requires.seen)

pub returns-in-Good-clause-step : goal.returns-in-Good-clause-step
returns-in-Good-clause-step c =
    steps_after (Head c.args.watch) (Body (pending_of c.in-Good.good)) c.args.buf.now.items c.args.buf.now.items c.step_body.new.buf.items c.args.at (c.args.at + c.in-Good.good.len) c.step_body.result
    (good_stands c.args.watch c.in-Good.good c.args.buf.now.items c.args.at (subst (λ (s : Seen). IsSeen (drop c.args.at c.args.buf.now.items) s) c.in-Good.is c.requires.seen))
    (subst (λ (p : Pending). Steps (Body p) c.args.buf.now.items (c.args.at + c.in-Good.good.len) c.step_body.result c.step_body.new.buf.items) c.pending_of.ensures c.step_body.ensures.step)

pub step_body-requires : goal.step_body-requires
step_body-requires c =
    subst (λ (p : Pending). IsSafe (Body p) c.args.buf.now.items (c.args.at + c.in-Good.good.len)) (sym c.pending_of.ensures) (good_safe c.in-Good.good c.args.buf.now.items c.args.at c.requires.at (subst (λ (s : Seen). IsSeen (drop c.args.at c.args.buf.now.items) s) c.in-Good.is c.requires.seen))
