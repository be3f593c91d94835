use Rattle.std.proofs.lemmas.Bool.Decides.{Decides-at}
use Rattle.ix_conf.specs.Settings.{settings_of}
use Rattle.ix_fits.specs.Fits.{card_fits}
use Rattle.ix_fits.proofs.DecidedLaws.{card_is_decided}
use Rattle.ix_fits.proofs.decided.card_fits.Goals as goal

pub returns : goal.returns
returns c =
    Decides-at c.card_passes.result (card_fits (settings_of c.args.conf.now) c.args.records.now c.args.wire.now c.args.report.now) c.card_passes.ensures
    (card_is_decided (settings_of c.args.conf.now) c.args.records.now c.args.wire.now c.args.report.now)
