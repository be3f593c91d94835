-- One line of the key-value protocol (formats: docs/GROUPS.md, "Applications").
use Rattle.std.specs.Prelude.{ℕ, ◌+◌, ◌-◌, Bool, nat_lt, nat_le, nat_eq, ◌&&◌, ◌==◌, if◌then◌else◌, List, [], ◌∷◌, length, take, drop, codes, Option, Some, None}
use Rattle.std.specs.List.{list_all, position, starts_with, ends_with}
use Rattle.ix_appdef.specs.declared.request.TheConstants.{KEY_MOST, VALUE_MOST, LINE_MOST}
use Rattle.ix_appdef.specs.declared.request.Request.{Request}
use Rattle.ix_appdef.specs.declared.request.Request.TheVariants as requests

abbrev pub is_visible : ℕ → Bool
is_visible b = nat_le 0x21 b && nat_le b 0x7e

-- one to so many visible characters
unfoldable pub is_word : List ℕ → ℕ → Bool
is_word bytes most = nat_lt 0 (length bytes) && nat_le (length bytes) most && list_all is_visible bytes

abbrev pub is_key : List ℕ → Bool
is_key bytes = is_word bytes KEY_MOST

abbrev pub is_value : List ℕ → Bool
is_value bytes = is_word bytes VALUE_MOST

abbrev pub is_blank : ℕ → Bool
is_blank b = b == 0x20

-- a key up to the first blank, and a value behind it
abbrev pub set_split : Option ℕ → List ℕ → Request
set_split None rest = requests.Bad
set_split (Some at) rest =
    if is_key (take at rest) && is_value (drop (at + 1) rest) then requests.Set (take at rest) (drop (at + 1) rest) else requests.Bad

unfoldable pub set_of : List ℕ → Request
set_of rest = set_split (position is_blank rest) rest

abbrev pub get_of : List ℕ → Request
get_of key = if is_key key then requests.Get key else requests.Bad

abbrev pub del_of : List ℕ → Request
del_of key = if is_key key then requests.Del key else requests.Bad

abbrev pub set_word : List ℕ
set_word = codes "set "

abbrev pub get_word : List ℕ
get_word = codes "get "

abbrev pub del_word : List ℕ
del_word = codes "del "

-- a line by its first word
unfoldable pub request_in : List ℕ → Request
request_in text =
    if starts_with nat_eq text set_word then set_of (drop 4 text)
    else if starts_with nat_eq text get_word then get_of (drop 4 text)
    else if starts_with nat_eq text del_word then del_of (drop 4 text)
    else requests.Bad

-- a carriage return before the line feed is dropped
unfoldable pub without_return : List ℕ → List ℕ
without_return line = if ends_with nat_eq line (0x0d ∷ []) then take (length line - 1) line else line

-- The request that the bytes before a line feed are; a carriage return counts to their number.
unfoldable pub request_of : List ℕ → Request
request_of line = if nat_lt LINE_MOST (length line) then requests.Bad else request_in (without_return line)
