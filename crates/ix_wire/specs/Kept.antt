-- What holds after any number of lines of a script.
use Rattle.std.specs.Prelude.{◌≡◌, ◌≤◌, ℕ, List, Ok, take}
use Rattle.ix_wire.specs.declared.command.Version.TheVariants.{One}
use Rattle.ix_wire.specs.declared.progress.Progress.{Progress}
use Rattle.ix_wire.specs.Classes.{AreTogether}
use Rattle.ix_wire.specs.Entries.{IsWireSoFar, Terms, cores_behind}
use Rattle.ix_wire.specs.Script.{lines_run, opening}

-- The entries so far are those of a play so far, the core of each flow group is what their moves come to, and as long as the version is 1
-- the four groups of each class are on one core.
pub record IsKept (x : Terms) (p : Progress) : Type 0 where
  pub wire : IsWireSoFar x p.wire.entries
  pub cores : p.table.at ≡ cores_behind x.live p.wire.entries
  pub classes : p.version ≡ One → AreTogether p.table.at

-- this holds after any number of these lines that are not refused, of a script that may have so many
abbrev pub KeepsRules : ℕ → Terms → List (List ℕ) → Type 0
KeepsRules limit x lines =
    (n : ℕ) (p : Progress) → lines_run limit x.own 0 (opening x.pace x.cores x.live) (take n lines) ≡ Ok p → IsKept x p

-- it holds of every script with at most 65,536 lines
abbrev pub ScriptsKeepRules : Type 0
ScriptsKeepRules = (limit : ℕ) (x : Terms) (lines : List (List ℕ)) → limit ≤ 65536 → x.live ≤ x.cores → KeepsRules limit x lines
