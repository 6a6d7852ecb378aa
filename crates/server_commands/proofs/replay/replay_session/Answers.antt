use Rattle.std.proofs.Common.{refl}
use Rattle.bim_session.specs.Replay.{stated_settings}
use Rattle.server_commands.proofs.OneActor.{laws_alone, stays_alone}
use Rattle.server_commands.proofs.Replaying.{settled_new, replays_of, nothing_replayed}
use Rattle.server_commands.proofs.replay.replay_session.Goals as goal

pub returns-in_default : goal.returns-in_default
returns-in_default g c = nothing_replayed (stated_settings c.args.projects) c.args.buckets _ (g.met.S.Source.at_end c.args.source.now)

pub run_session-requires-clause-fits : goal.run_session-requires-clause-fits
run_session-requires-clause-fits g c = settled_new (stated_settings c.args.projects) c.in-Ok.own c.in-Ok.ensures

pub run_session-requires-clause-laws : goal.run_session-requires-clause-laws
run_session-requires-clause-laws g c = laws_alone (stated_settings c.args.projects) c.args.buckets

pub run_session-requires-clause-stays : goal.run_session-requires-clause-stays
run_session-requires-clause-stays g c =
    stays_alone (stated_settings c.args.projects) c.in-Ok.own c.in-Ok.own (settled_new (stated_settings c.args.projects) c.in-Ok.own c.in-Ok.ensures) refl

pub returns : goal.returns
returns g c = replays_of (stated_settings c.args.projects) c.args.buckets c.in-Ok.own c.run_session.new.own _ _ c.run_session.result c.in-Ok.ensures c.run_session.ensures.serves
