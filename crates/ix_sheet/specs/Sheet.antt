-- The report of what a play leaves.
use Rattle.std.specs.Prelude.{◌≡◌, length, count_by, List}
use Rattle.std.specs.List.Sorted.{IsPermutation, IsSortedByKey}
use Rattle.std.specs.Ordering.{nat_cmp}
use Rattle.ix_conf.specs.Settings.{Settings}
use Rattle.ix_fits.specs.Card.{is_dropped}
use Rattle.ix_lines.specs.declared.types.Head.{Head}
use Rattle.ix_playdef.specs.declared.order.Reply.{Reply}
use Rattle.ix_trace.specs.declared.sheet.Sheet.{Sheet}
use Rattle.ix_sheet.specs.Lines.{all_conns, present}
use Rattle.ix_sheet.specs.Strays.{all_strays, wire_of}
use Rattle.ix_sheet.specs.declared.outcome.Outcome.{Outcome}

abbrev pub head_of : Settings → Head
head_of s = record { cores = s.cores; batch = s.batch; buffers = s.buffers }

-- With the replies in their order. The strays are those of all groups, each once, by rising wire number; of the connections no line is
-- missing. As no two strays have one wire number, there is one such report.
pub record IsSheetOf (head : Head) (o : Outcome) (replies : List Reply) (r : Sheet) : Type 0 where
  pub head_is : r.head ≡ head
  pub settles : r.settles ≡ o.settles
  pub connects : r.connects ≡ o.connects
  pub entries : r.entries ≡ o.entries
  pub strays : IsPermutation (all_strays replies o.groups) r.strays
  pub rising : IsSortedByKey wire_of nat_cmp r.strays
  pub conns : present r.conns ≡ all_conns o.entries replies o.groups
  pub closed : r.closed ≡ o.closed
  pub replies_are : r.replies ≡ length replies
  pub drops : r.drops ≡ count_by is_dropped o.entries
