use Rattle.ix_sheet.proofs.Plays.{plays_can_be_reported}
use Rattle.ix_sheet.proofs.laws.plays_can_be_reported.Goals as goal

pub returns : goal.returns
returns c = plays_can_be_reported (record { strays = c.groups_are_sound.ensures.strays; tell = c.records_can_be_told.ensures })
