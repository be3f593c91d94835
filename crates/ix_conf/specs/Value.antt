-- One value of a configuration, or the fault at its key. A document's meaning is toml's.
use Rattle.std.specs.Prelude.{◌≡◌, ℕ, pos, codes, List, ◌||◌, if◌then◌else◌, Option, Some, None, Result, Ok, Err, String, option_and_then, ok_or, bytes_eq, nat_lt}
use Rattle.std.specs.Borrow.{Bor}
use Rattle.std.specs.BTreeMap.{BTreeMap}
use Rattle.std.specs.declared.alloc.Global.{Global}
use Rattle.toml.specs.declared.value.Value.{Value}
use Rattle.toml.specs.Data.{Data, integer, Members, no_members, get_member, as_str, as_table}
use Rattle.toml.specs.View.{table_view}
use Rattle.ix_conf.specs.declared.keys.ConfKey.{ConfKey}
use Rattle.ix_conf.specs.declared.keys.ConfFault.{ConfFault}
use Rattle.ix_conf.specs.declared.keys.ConfFault.TheVariants as faults
use Rattle.ix_conf.specs.declared.settings.AppKind.{AppKind}
use Rattle.ix_conf.specs.declared.settings.AppKind.TheVariants.{Echo, Kv, Push}
use Rattle.ix_conf.specs.Address.{ip_of, mac_of}

infixl 10 ◌>>=◌
abbrev pub ◌>>=◌ : {A B : Type 0} → Result A ConfFault → (A → Result B ConfFault) → Result B ConfFault
(Ok x) >>= f = f x
(Err fault) >>= f = Err fault

-- A function answered the meaning, where `view` is its answer as the meaning has it, or that memory ran out.
abbrev pub Fails : {M : Type 0} → ConfFault → Result M ConfFault → Type 0
Fails faults.NoMemory meaning = Unit {0}
Fails faults.Text meaning = meaning ≡ Err faults.Text
Fails faults.Unknown meaning = meaning ≡ Err faults.Unknown
Fails (faults.Missing key) meaning = meaning ≡ Err (faults.Missing key)
Fails (faults.Range key) meaning = meaning ≡ Err (faults.Range key)

abbrev pub Gives : {A M : Type 0} → (A → M) → Result A ConfFault → Result M ConfFault → Type 0
Gives view (Ok answer) meaning = meaning ≡ Ok (view answer)
Gives view (Err fault) meaning = Fails fault meaning

-- the members of a section, none where it is absent; one that is no table is a fault at its first key
abbrev pub members_in : ConfKey → Option Data → Result Members ConfFault
members_in first None = Ok no_members
members_in first (Some value) = ok_or (as_table value) (faults.Range first)

unfoldable pub section_of : List ℕ → ConfKey → Members → Result Members ConfFault
section_of name first ms = members_in first (get_member name ms)

-- a key that has to be there, and one with a default
abbrev pub required : {A : Type 0} → ConfKey → (Data → Option A) → Option Data → Result A ConfFault
required key read None = Err (faults.Missing key)
required key read (Some value) = ok_or (read value) (faults.Range key)

abbrev pub with_default : {A : Type 0} → ConfKey → A → (Data → Option A) → Option Data → Result A ConfFault
with_default key default read None = Ok default
with_default key default read (Some value) = ok_or (read value) (faults.Range key)

-- a whole number within a range
abbrev pub number_in : ℕ → ℕ → Data → Option ℕ
number_in low high (integer (pos n)) = if nat_lt n low || nat_lt high n then None else Some n
number_in low high _ = None

abbrev pub mac_in : Data → Option (List ℕ)
mac_in value = option_and_then mac_of (as_str value)

abbrev pub ip_in : Data → Option ℕ
ip_in value = option_and_then ip_of (as_str value)

abbrev pub app_named : List ℕ → Option AppKind
app_named name =
    if bytes_eq name (codes "echo") then Some Echo
    else if bytes_eq name (codes "kv") then Some Kv
    else if bytes_eq name (codes "push") then Some Push
    else None

abbrev pub app_in : Data → Option AppKind
app_in value = option_and_then app_named (as_str value)

-- a section as the code holds it
abbrev pub section_members : Option (Bor (BTreeMap (String Global) Value)) → Members
section_members None = no_members
section_members (Some table) = table_view table.now

abbrev pub section_view : Result (Option (Bor (BTreeMap (String Global) Value))) ConfFault → Result Members ConfFault
section_view (Ok found) = Ok (section_members found)
section_view (Err fault) = Err fault
