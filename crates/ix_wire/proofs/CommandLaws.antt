-- A line of four words or more is no command.
use Rattle.std.proofs.Common.{◌≡◌, ℕ, List, [], ◌∷◌, Bool, true, false, refl}
use Rattle.std.specs.Prelude.{if◌then◌else◌, ◌==◌, Err}
use Rattle.ix_wire.specs.declared.command.Version.{Version}
use Rattle.ix_wire.specs.declared.fault.ScriptKind.TheVariants as kinds
use Rattle.ix_wire.specs.Text.{words_of, push_front}
use Rattle.ix_wire.specs.Command.{command_of}

four : (begun : Bool) (version : Version) (a b c : List ℕ) (d : ℕ) (blank : Bool) (parts : List (List ℕ))
    → command_of begun version (a ∷ b ∷ c ∷ (if blank then [] ∷ parts else push_front d parts)) ≡ Err kinds.Word
unfolding command_of
four begun version a b c d true parts = refl
four begun version a b c d false [] = refl
four begun version a b c d false (part ∷ parts) = refl

pub command_of-four : (begun : Bool) (version : Version) (a b c rest : List ℕ)
    → command_of begun version (a ∷ b ∷ c ∷ words_of rest) ≡ Err kinds.Word
unfolding command_of
command_of-four begun version a b c [] = refl
command_of-four begun version a b c (d ∷ rest) = four begun version a b c d (d == 32) (words_of rest)

pub command_of_many : (begun : Bool) (version : Version) (line a b c rest : List ℕ) (u v : List (List ℕ))
    → words_of line ≡ a ∷ u → u ≡ b ∷ v → v ≡ c ∷ words_of rest → Err kinds.Word ≡ command_of begun version (words_of line)
command_of_many begun version line a b c rest u v e f g = rw (e, f, g, command_of-four begun version a b c rest) refl
