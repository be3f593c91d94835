use Rattle.ix_groupdef.proofs.Runs.{are_runs}
use Rattle.ix_groupdef.proofs.Few.{few_live}
use Rattle.ix_groupdef.proofs.Placed.{none_lost, hear_own}
use Rattle.ix_groupdef.proofs.Parts.{heard_in_order}
use Rattle.ix_groupdef.proofs.Follows.{are_followed}
use Rattle.ix_groupdef.proofs.InCycles.{are_legal}
use Rattle.ix_groupdef.proofs.Fronts.{took_fronts}
use Rattle.ix_groupdef.proofs.FitFrames.{frames_fit}
use Rattle.ix_groupdef.proofs.WholeLaws.{journals_are_whole}
use Rattle.ix_groupdef.proofs.Quiet.{quiet_stays}
use Rattle.ix_groupdef.proofs.StrayParts.{strays_in_order}
use Rattle.ix_groupdef.proofs.Telling.{told_streams}
use Rattle.ix_groupdef.proofs.OnePerFlow.{one_per_flow-run}
use Rattle.ix_groupdef.proofs.LeftOver.{strays_are_left_over}
use Rattle.ix_groupdef.proofs.Rests.{rests_after, closed_stays, all_rest}
use Rattle.ix_groupdef.proofs.laws.groups_are_sound.Goals as goal

pub returns : goal.returns
returns c = record { runs = are_runs; few = few_live; none_lost = none_lost; own = hear_own; in_order = heard_in_order; followed = are_followed; legal = are_legal; answered = took_fronts; told = told_streams c.runs_are_sound.ensures.told c.runs_are_sound.ensures.agreed; one = one_per_flow-run; left_over = strays_are_left_over; rests = rests_after; stays = closed_stays; all_rest = all_rest; strays = strays_in_order; quiet = quiet_stays; frames = frames_fit; whole = journals_are_whole }
