use Rattle.ix_lines.proofs.LineLaws.{line_read-takes}
use Rattle.ix_lines.proofs.AgainLaws.{line_read-again, no_feed}
use Rattle.ix_lines.proofs.laws.lines_are_exact.Goals as goal

pub returns : goal.returns
returns c = record { read_again = line_read-again; written_so = line_read-takes; one_line = no_feed }
