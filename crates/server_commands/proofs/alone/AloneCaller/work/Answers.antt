use Rattle.std.proofs.Common.{◌∙◌}
use Rattle.bim_session.specs.Replay.{stated_settings}
use Rattle.server_commands.proofs.OneActor.{works_alone}
use Rattle.server_commands.proofs.alone.AloneCaller.work.Goals as goal

pub returns-clause-works : goal.returns-clause-works
returns-clause-works c =
    works_alone (stated_settings c.args.self.now.projects) c.args.self.now.buckets c.args.own.now c.work.new.self c.work.result c.requires.fits c.work.ensures.ok c.work.ensures.err

pub returns-clause-fits : goal.returns-clause-fits
returns-clause-fits c = record { settings_are = c.work.ensures.settings ∙ c.requires.fits.settings_are; before = c.work.ensures.before }
