-- The numbers of a command are in their ranges, and no line of `version` follows one that says something.
use Rattle.std.proofs.Common.{◌≡◌, ◌<◌, ◌≤◌, ℕ, List, [], ◌∷◌, Bool, true, false, refl, arith, Option, Some, None}
use Rattle.std.specs.Prelude.{◌&&◌, not, if◌then◌else◌, Result, Ok, Err, bytes_eq, codes, nat_lt}
use Rattle.std.proofs.lemmas.Bool.Decides.{nat_tests}
use Rattle.ix_wire.specs.declared.command.Command.{Command}
use Rattle.ix_wire.specs.declared.command.Command.TheVariants as commands
use Rattle.ix_wire.specs.declared.command.Version.{Version}
use Rattle.ix_wire.specs.declared.fault.ScriptKind.{ScriptKind}
use Rattle.ix_wire.specs.declared.fault.ScriptKind.TheVariants as kinds
use Rattle.ix_wire.specs.Chain.{◌>>=◌}
use Rattle.ix_wire.specs.Command.{IsCommand, command_of, number_named, place_named, place_of, places_of, range_named, range_of, version_named}
use Rattle.ix_wire.specs.Text.{number_in}

-- a line of `version` may come only where none before it says something
abbrev pub IsVersionFirst : Bool → Command → Type 0
IsVersionFirst begun (commands.Version version) = begun ≡ false
IsVersionFirst begun _ = Unit {0}

pub record IsKnown (begun : Bool) (version : Version) (c : Command) : Type 0 where
  pub range : IsCommand version c
  pub first : IsVersionFirst begun c

-- what holds of each command that one of two tests gives
branch : (P : Command → Type 0) (b : Bool) (r s : Result Command ScriptKind) → ((c : Command) → b ≡ true → r ≡ Ok c → P c)
    → ((c : Command) → s ≡ Ok c → P c) → (c : Command) → (if b then r else s) ≡ Ok c → P c
branch P true r s here there c e = here c refl e
branch P false r s here there c e = there c e

never : (P : Command → Type 0) (kind : ScriptKind) (c : Command) → Err kind ≡ Ok c → P c
never P kind c e = absurd (cc)

mapped : {A : Type 0} (P : Command → Type 0) (r : Result A ScriptKind) (f : A → Command) → ((x : A) → r ≡ Ok x → P (f x))
    → (c : Command) → (r >>= λ x. Ok (f x)) ≡ Ok c → P c
mapped P (Ok x) f each c e = let same : f x ≡ c = cc in rw (← same) (each x refl)
mapped P (Err kind) f each c e = absurd (cc)

place_in : (version : Version) (o : Option ℕ) (place : ℕ) → place_of version o ≡ Ok place → place < places_of version
place_in version None place e = absurd (cc)
place_in version (Some n) place e = pick (nat_lt n (places_of version)) refl e where
  pick : (b : Bool) → nat_lt n (places_of version) ≡ b → (if b then Ok n else Err kinds.Number) ≡ Ok place → place < places_of version
  pick true is e = let same : n ≡ place = cc in rw (← same) (grind (arith, nat_tests))
  pick false is e = absurd (cc)

range_in : (from to : Option ℕ) (range : ℕ × ℕ) → range_of from to ≡ Ok range → range.0 ≤ range.1
range_in None to range e = absurd (cc)
range_in (Some a) None range e = absurd (cc)
range_in (Some a) (Some b) range e = pick (nat_lt b a) refl e where
  pick : (t : Bool) → nat_lt b a ≡ t → (if t then Err kinds.Number else Ok (a, b)) ≡ Ok range → range.0 ≤ range.1
  pick true is e = absurd (cc)
  pick false is e = let same : (a, b) ≡ range = cc in rw (← same) (grind (arith, nat_tests))

not_begun : (b begun : Bool) → (b && not begun) ≡ true → begun ≡ false
not_begun true true h = absurd (cc)
not_begun true false h = refl
not_begun false begun h = absurd (cc)

pub command_of-known : (begun : Bool) (version : Version) (words : List (List ℕ)) (c : Command) → command_of begun version words ≡ Ok c
    → IsKnown begun version c
unfolding command_of
command_of-known begun version [] c e = absurd (cc)
command_of-known begun version (verb ∷ []) c e =
    branch (IsKnown begun version) (bytes_eq verb (codes "settle")) _ _
    (λ c b r. let same : commands.Settle ≡ c = cc in rw (← same) (record { range = tt; first = tt }))
    (λ c r. never (IsKnown begun version) kinds.Word c r) c e
command_of-known begun version (verb ∷ a ∷ []) c e =
    branch (IsKnown begun version) (bytes_eq verb (codes "time")) _ _
    (λ c b r. mapped (IsKnown begun version) (number_named a) commands.Time (λ t is. record { range = tt; first = tt }) c r)
    (branch (IsKnown begun version) (bytes_eq verb (codes "tag")) _ _
    (λ c b r. mapped (IsKnown begun version) (place_named version a) commands.Tag
    (λ place is. record { range = place_in version (number_in a) place is; first = tt }) c r)
    (branch (IsKnown begun version) (bytes_eq verb (codes "add")) _ _
    (λ c b r. mapped (IsKnown begun version) (number_named a) commands.Add (λ core is. record { range = tt; first = tt }) c r)
    (branch (IsKnown begun version) (bytes_eq verb (codes "revoke")) _ _
    (λ c b r. mapped (IsKnown begun version) (number_named a) commands.Revoke (λ core is. record { range = tt; first = tt }) c r)
    (branch (IsKnown begun version) (bytes_eq verb (codes "version") && not begun) _ _
    (λ c b r. mapped (IsKnown begun version) (version_named a) commands.Version
    (λ named is. record { range = tt; first = not_begun (bytes_eq verb (codes "version")) begun b }) c r)
    (λ c r. never (IsKnown begun version) kinds.Word c r))))) c e
command_of-known begun version (verb ∷ a ∷ b ∷ []) c e =
    branch (IsKnown begun version) (bytes_eq verb (codes "frames")) _ _
    (λ c t r. mapped (IsKnown begun version) (range_named a b) (λ range. commands.Frames range.0 range.1)
    (λ range is. record { range = range_in (number_in a) (number_in b) range is; first = tt }) c r)
    (branch (IsKnown begun version) (bytes_eq verb (codes "each")) _ _
    (λ c t r. mapped (IsKnown begun version) (range_named a b) (λ range. commands.Each range.0 range.1)
    (λ range is. record { range = range_in (number_in a) (number_in b) range is; first = tt }) c r)
    (branch (IsKnown begun version) (bytes_eq verb (codes "move")) _ _
    (λ c t r. moving c (place_named version a) (λ place is. place_in version (number_in a) place is) r)
    (λ c r. never (IsKnown begun version) kinds.Word c r))) c e where
      moving : (c : Command) (r : Result ℕ ScriptKind) → ((place : ℕ) → r ≡ Ok place → place < places_of version)
          → (r >>= λ place. number_named b >>= λ to. Ok (commands.Move place to)) ≡ Ok c → IsKnown begun version c
      moving c (Err kind) within e = absurd (cc)
      moving c (Ok place) within e =
          mapped (IsKnown begun version) (number_named b) (commands.Move place) (λ to is. record { range = within place refl; first = tt }) c e
command_of-known begun version (verb ∷ a ∷ b ∷ d ∷ rest) c e = absurd (cc)
