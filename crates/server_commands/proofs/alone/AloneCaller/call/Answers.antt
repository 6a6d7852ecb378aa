use Rattle.std.proofs.Common.{inl, ap, ◌∙◌}
use Rattle.bim_session.specs.Replay.{stated_settings}
use Rattle.server_commands.specs.inner.OneActor.{seen_alone}
use Rattle.link_session.proofs.Calling.{legal_of}
use Rattle.server_commands.proofs.OneActor.{taken_alone, went_alone, stays_alone}
use Rattle.server_commands.proofs.alone.AloneCaller.call.Goals as goal

pub call-requires : goal.call-requires
call-requires c = legal_of _ _ c.args.call.request c.requires.none

pub returns-in-Ok-clause-calls : goal.returns-in-Ok-clause-calls
returns-in-Ok-clause-calls c =
    taken_alone (stated_settings c.args.self.now.projects) c.args.call c.args.own.now c.call.new.self c.in-Ok.receipt c.requires.fits c.in-Ok.ensures.receipt

pub returns-in-Ok-clause-goes : goal.returns-in-Ok-clause-goes
returns-in-Ok-clause-goes c =
    went_alone (stated_settings c.args.self.now.projects) c.args.call c.args.own.now c.call.new.self c.in-Ok.receipt c.requires.fits c.in-Ok.ensures.receipt

pub returns-in-Ok-clause-fits : goal.returns-in-Ok-clause-fits
returns-in-Ok-clause-fits c = record { settings_are = c.in-Ok.ensures.settings ∙ c.requires.fits.settings_are; before = c.in-Ok.ensures.before }

pub returns-in-Err-clause-calls : goal.returns-in-Err-clause-calls
returns-in-Err-clause-calls c = inl (ap seen_alone c.in-Err.ensures.receipt)

pub returns-in-Err-clause-goes : goal.returns-in-Err-clause-goes
returns-in-Err-clause-goes c = stays_alone (stated_settings c.args.self.now.projects) c.args.own.now c.call.new.self c.requires.fits c.in-Err.ensures.receipt

pub returns-in-Err-clause-fits : goal.returns-in-Err-clause-fits
returns-in-Err-clause-fits c = record { settings_are = c.in-Err.ensures.settings ∙ c.requires.fits.settings_are; before = c.in-Err.ensures.before }
