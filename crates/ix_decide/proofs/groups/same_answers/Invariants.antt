use Rattle.std.proofs.Common.{◌≡◌, ◌<◌, ℕ, length, get_or}
use Rattle.ix_lines.specs.declared.types.ConnectLine.{ConnectLine}
use Rattle.ix_decide.proofs.groups.same_answers.Given as goal

abbrev pub invariant-loop-i : goal.invariant-loop-i
invariant-loop-i l = record {
  long : length l.printed ≡ length l.answers;
  each : (k : ℕ) (d : ConnectLine) → k < l.i → get_or l.printed k d ≡ get_or l.answers k d;
}
