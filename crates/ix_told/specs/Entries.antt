-- The entries of a group, read one after another.
use Rattle.std.specs.Prelude.{ℕ, ◌==◌, if◌then◌else◌, Option, Some, None}
use Rattle.ix_base.specs.declared.id.CoreId.{CoreId}
use Rattle.ix_lines.specs.declared.types.EntryLine.{EntryLine}
use Rattle.ix_lines.specs.declared.types.EntryLine.TheVariants as lines
use Rattle.ix_order.specs.Steppers.{LastTag, none_yet, no_move, moved_to}
use Rattle.ix_fits.specs.Cutting.{Stage}
use Rattle.ix_told.specs.declared.progress.Latest.{Latest}
use Rattle.ix_told.specs.declared.progress.Latest.TheVariants as latest
use Rattle.ix_told.specs.declared.progress.Progress.{Progress}

abbrev pub core_number : Option CoreId → Option ℕ
core_number None = None
core_number (Some core) = Some core.0

abbrev pub last_tag_of : Latest → LastTag
last_tag_of latest.NoneYet = none_yet
last_tag_of latest.NoMove = no_move
last_tag_of (latest.MovedTo core) = moved_to core.0

abbrev pub stage_of : Progress → Stage
stage_of p = record { tags = p.tags; last = last_tag_of p.last; open_tag = p.open_tag; settles = p.settles }

-- where a move of a group goes
abbrev pub target_of : ℕ → EntryLine → Option CoreId
target_of g (lines.Move group to) = if g == group.0 then Some to else None
target_of g (lines.Frame rec at group ring fate) = None
target_of g (lines.Time t) = None
target_of g (lines.Tag group) = None
target_of g lines.Settle = None
