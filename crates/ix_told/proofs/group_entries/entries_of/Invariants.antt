use Rattle.std.proofs.Common.{◌≡◌, ◌++◌, ◌≤◌, drop}
use Rattle.ix_pcap.specs.Capture.{frames_of}
use Rattle.ix_fits.specs.Cutting.{dues, dues_from}
use Rattle.ix_reta.specs.Table.{opening_core}
use Rattle.ix_told.specs.Entries.{stage_of}
use Rattle.ix_told.proofs.group_entries.entries_of.Given as goal

abbrev pub invariant-loop-w : goal.invariant-loop-w
invariant-loop-w l =
    record {
      tags : l.progress.tags ≤ l.w;
      settles : l.progress.settles ≤ l.w;
      rest : l.entries.items ++ dues_from (frames_of l.bytes l.spans) l.group.0 l.opening.0 (stage_of l.progress) l.w (drop l.w l.lines)
          ≡ dues (frames_of l.bytes l.spans) l.group.0 (opening_core l.live l.group.0).0 l.lines;
    }
