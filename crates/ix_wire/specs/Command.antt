-- What a line says. Formats: docs/SCRIPT.md, "Lines".
use Rattle.std.specs.Prelude.{ℕ, ◌<◌, ◌≤◌, codes, List, [], ◌∷◌, Bool, not, ◌&&◌, ◌==◌, if◌then◌else◌, Option, Some, None, Result, Ok, Err, bytes_eq, nat_lt, ok_or}
use Rattle.std.specs.Borrow.{Bor}
use Rattle.ix_wire.specs.declared.command.Command.{Command}
use Rattle.ix_wire.specs.declared.command.Command.TheVariants as commands
use Rattle.ix_wire.specs.declared.command.Version.{Version}
use Rattle.ix_wire.specs.declared.command.Version.TheVariants.{One, Two}
use Rattle.ix_wire.specs.declared.fault.ScriptKind.{ScriptKind}
use Rattle.ix_wire.specs.declared.fault.ScriptKind.TheVariants as kinds
use Rattle.ix_wire.specs.Chain.{◌>>=◌}
use Rattle.ix_wire.specs.Text.{words_of, number_in}

-- how many flow groups a number names
abbrev pub width_of : Version → ℕ
width_of One = 4
width_of Two = 1

-- how many numbers there are
abbrev pub places_of : Version → ℕ
places_of One = 128
places_of Two = 512

-- the words after a blank, if there is one
abbrev pub words_after : Option (Bor (List ℕ)) → List (List ℕ)
words_after None = []
words_after (Some rest) = words_of rest.now

abbrev pub place_of : Version → Option ℕ → Result ℕ ScriptKind
place_of version None = Err kinds.Number
place_of version (Some place) = if nat_lt place (places_of version) then Ok place else Err kinds.Number

abbrev pub place_named : Version → List ℕ → Result ℕ ScriptKind
place_named version word = place_of version (number_in word)

abbrev pub number_named : List ℕ → Result ℕ ScriptKind
number_named word = ok_or (number_in word) kinds.Number

abbrev pub version_of : ℕ → Result Version ScriptKind
version_of number = if number == 1 then Ok One else if number == 2 then Ok Two else Err kinds.Number

abbrev pub version_named : List ℕ → Result Version ScriptKind
version_named word = number_named word >>= version_of

abbrev pub range_of : Option ℕ → Option ℕ → Result (ℕ × ℕ) ScriptKind
range_of (Some from) (Some to) = if nat_lt to from then Err kinds.Number else Ok (from, to)
range_of _ _ = Err kinds.Number

abbrev pub range_named : List ℕ → List ℕ → Result (ℕ × ℕ) ScriptKind
range_named from to = range_of (number_in from) (number_in to)

-- The command of these words in a script of a version. A line of `version` is known only where no line before it says something.
unfoldable pub command_of : Bool → Version → List (List ℕ) → Result Command ScriptKind
command_of begun version (verb ∷ []) = if bytes_eq verb (codes "settle") then Ok commands.Settle else Err kinds.Word
command_of begun version (verb ∷ a ∷ []) =
    if bytes_eq verb (codes "time") then (number_named a >>= λ t. Ok (commands.Time t))
    else if bytes_eq verb (codes "tag") then (place_named version a >>= λ place. Ok (commands.Tag place))
    else if bytes_eq verb (codes "add") then (number_named a >>= λ core. Ok (commands.Add core))
    else if bytes_eq verb (codes "revoke") then (number_named a >>= λ core. Ok (commands.Revoke core))
    else if bytes_eq verb (codes "version") && not begun then (version_named a >>= λ named. Ok (commands.Version named))
    else Err kinds.Word
command_of begun version (verb ∷ a ∷ b ∷ []) =
    if bytes_eq verb (codes "frames") then (range_named a b >>= λ range. Ok (commands.Frames range.0 range.1))
    else if bytes_eq verb (codes "each") then (range_named a b >>= λ range. Ok (commands.Each range.0 range.1))
    else if bytes_eq verb (codes "move") then (place_named version a >>= λ place. number_named b >>= λ to. Ok (commands.Move place to))
    else Err kinds.Word
command_of begun version _ = Err kinds.Word

-- the numbers of a command are in their ranges
abbrev pub IsCommand : Version → Command → Type 0
IsCommand version (commands.Frames from to) = from ≤ to
IsCommand version (commands.Each from to) = from ≤ to
IsCommand version (commands.Tag place) = place < places_of version
IsCommand version (commands.Move place to) = place < places_of version
IsCommand version _ = Unit {0}
