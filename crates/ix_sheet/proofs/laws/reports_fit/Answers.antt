use Rattle.ix_sheet.proofs.FitLaws.{reports_fit}
use Rattle.ix_sheet.proofs.laws.reports_fit.Goals as goal

pub returns : goal.returns
returns c = reports_fit (record { strays = c.groups_are_sound.ensures.strays; tell = c.records_can_be_told.ensures }) c.plays_can_be_reported.ensures
