use Rattle.std.proofs.Common.{◌∙◌, All, subst, sym, map, arith}
use Rattle.bim_net.specs.Hosts.{AreNew}
use Rattle.serve_lanes.specs.Histories.{TellsOne}
use Rattle.server_commands.proofs.Serving.{none_spent, same_told, opened_served, unopened_served}
use Rattle.server_commands.proofs.serve.serve.Goals as goal

pub returns-in_default-clause-spent : goal.returns-in_default-clause-spent
returns-in_default-clause-spent g c = none_spent 6 c.of.result (λ e. omega (arith, e)) c.of.ensures

pub returns-in_default-clocks_of-clause-spent : goal.returns-in_default-clocks_of-clause-spent
returns-in_default-clocks_of-clause-spent g c = none_spent 6 c.of-in_default-clocks_of.result (λ e. omega (arith, e)) c.of-in_default-clocks_of.ensures

pub serve_doors-requires-clause-new : goal.serve_doors-requires-clause-new
serve_doors-requires-clause-new g c κs within =
    let told = same_told _ (g.H.Host.seen c.args.host.now) (g.H.Host.seen c.gate-gate.new.self) (g.H.Host.seen c.open_doors.new.self)
    (c.gate-gate.ensures.host ∙ c.clocks_of.ensures.host) c.in-Ok-open_doors.ensures.host in
    subst (λ b. AreNew b 0 (map g.D.Door.seen c.in-Ok-open_doors.doors.items)) (sym told.0) c.in-Ok-open_doors.ensures.new

pub serve_doors-requires-clause-one : goal.serve_doors-requires-clause-one
serve_doors-requires-clause-one g c κs within =
    let told = same_told _ (g.H.Host.seen c.args.host.now) (g.H.Host.seen c.gate-gate.new.self) (g.H.Host.seen c.open_doors.new.self)
    (c.gate-gate.ensures.host ∙ c.clocks_of.ensures.host) c.in-Ok-open_doors.ensures.host in
    subst (λ one. All (λ x. TellsOne one (g.C.Clock.seen x).one) c.in-Ok-clocks_of.clocks.items) (sym told.1) c.in-Ok-clocks_of.ensures.one

pub returns-in-Ok-open_doors-clause-served : goal.returns-in-Ok-open_doors-clause-served
returns-in-Ok-open_doors-clause-served g c =
    opened_served c.args.said.now (g.H.Host.seen c.args.host.now) (g.H.Host.seen c.gate-gate.new.self) (g.H.Host.seen c.open_doors.new.self) _ c.serve_doors.result
    (c.gate-gate.ensures.host ∙ c.clocks_of.ensures.host) c.in-Ok-open_doors.ensures.host c.serve_doors.ensures.served

pub returns-in-Err-Failed-clause-served : goal.returns-in-Err-Failed-clause-served
returns-in-Err-Failed-clause-served g c =
    let opens = rw c.in-Err-Failed.field-0-is at c.in-Err-Failed.ensures.host in
    unopened_served c.args.said.now (g.H.Host.seen c.args.host.now) (g.H.Host.seen c.gate-gate.new.self) (g.H.Host.seen c.open_doors.new.self) _
    (c.gate-gate.ensures.host ∙ c.clocks_of.ensures.host) opens.0 opens.1 c.of-in-Err-Failed.ensures

pub returns-in-Err-Failed-clause-spent : goal.returns-in-Err-Failed-clause-spent
returns-in-Err-Failed-clause-spent g c = none_spent 4 c.of-in-Err-Failed.result (λ e. omega (arith, e)) c.of-in-Err-Failed.ensures

pub returns-clause-spent : goal.returns-clause-spent
returns-clause-spent g c = none_spent 6 c.of-in-Err-Memory.result (λ e. omega (arith, e)) c.of-in-Err-Memory.ensures
