-- The words of the commands.
use Rattle.std.specs.Prelude.{◌≡◌, ◌⊎◌, List, [], ◌∷◌, Option, Some, None, String, codes, string_bytes}
use Rattle.ix_top.specs.declared.command.Command.{Command}
use Rattle.ix_top.specs.declared.command.Command.TheVariants.{Check, Play}

-- the words of a play
abbrev pub IsPlay : {A : Type 0} → List (String A) → Type 0
IsPlay (command ∷ conf ∷ script ∷ capture ∷ replies ∷ trace ∷ []) = string_bytes command ≡ codes "play"
IsPlay _ = ⊥

-- those of a check
abbrev pub IsCheck : {A : Type 0} → List (String A) → Type 0
IsCheck (command ∷ conf ∷ script ∷ capture ∷ replies ∷ trace ∷ []) = string_bytes command ≡ codes "check"
IsCheck _ = ⊥

-- those of some command
abbrev pub IsCommand : {A : Type 0} → List (String A) → Type 0
IsCommand words = IsPlay words ⊎ IsCheck words

-- The command is what the words ask for; where there is none, they ask for nothing.
abbrev pub IsAsked : {A : Type 0} → Option Command → List (String A) → Type 0
IsAsked (Some (Play files)) words = IsPlay words × (IsCheck words → ⊥)
IsAsked (Some (Check files)) words = IsCheck words × (IsPlay words → ⊥)
IsAsked None words = IsCommand words → ⊥
