use Rattle.std.proofs.Common.{◌≡◌, ◌++◌, length, map, All}
use Rattle.ix_playdef.specs.Replies.{FitsGroup}
use Rattle.ix_fits.specs.Fits.{left_by}
use Rattle.ix_out.specs.Out.{groups_from}
use Rattle.ix_places.specs.Filed.{records_by}
use Rattle.ix_decide.specs.Points.{cycles_in, frames_in, settings_in}
use Rattle.ix_decide.proofs.replies.all_left.Given as goal

abbrev pub invariant-loop-group : goal.invariant-loop-group
invariant-loop-group l = record {
  records : l.records.items ++ map (left_by (settings_in l.play) (frames_in l.play) (cycles_in l.play)) (groups_from l.group)
      ≡ records_by (settings_in l.play) (frames_in l.play) (cycles_in l.play);
  groups : length l.records.items ≡ l.group;
  fit : All FitsGroup l.records.items;
}
