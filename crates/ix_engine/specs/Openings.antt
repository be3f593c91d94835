-- The card and the cores of a play at its opening.
use Rattle.std.specs.Prelude.{◌≡◌, ◌<◌, ◌==◌, if◌then◌else◌, ℕ, List, [], All, AllPairs, length, map, slice_index_or}
use Rattle.ix_base.specs.declared.id.GroupId.{GroupId}
use Rattle.ix_mbuf.specs.Pools.{all_names}
use Rattle.ix_desk.specs.Desks.{opened as opened_at}
use Rattle.ix_desk.specs.Groups.{at_home, empty}
use Rattle.ix_desk.specs.Views.{Group}
use Rattle.ix_stack.specs.declared.work.Work.{Work}
use Rattle.ix_appdef.specs.declared.application.Application.{Application}
use Rattle.ix_groupdef.specs.declared.env.Env.{Env}
use Rattle.ix_conf.specs.Settings.{Settings}
use Rattle.ix_reta.specs.Table.{Table}
use Rattle.ix_nic.specs.declared.port.NicEnd.{NicEnd}
use Rattle.ix_nic.specs.Cards.{CardView, core_at, opened}
use Rattle.ix_core.specs.declared.message.CoreEnds.{CoreEnds}
use Rattle.ix_core.specs.declared.turning.Core.{Core}
use Rattle.ix_core.specs.Cores.{IsOpened}
use Rattle.ix_core.specs.Opening.{EndsAreNew}
use Rattle.ix_core.specs.Order.{EndsAreInOrder}
use Rattle.ix_plainstack.specs.Stack.{Stack, empty_stack}

-- a core of the plain stacks, and its ends of the rings
abbrev pub StackCore : Type 0
StackCore = Core Stack (Env Application)

abbrev pub StackEnds : Type 0
StackEnds = CoreEnds Stack (Env Application)

-- ## Homes
-- a group at the desks of a core: at home there, if the table says so
abbrev pub home_or_none : Table → ℕ → ℕ → Group Stack Work
home_or_none table core g = if (core_at table g).0 == core then at_home empty_stack else empty

-- what these homes make of the desks of a group
abbrev pub desk_of : List (GroupId × Stack) → ℕ → Group Stack Work
desk_of homes g = opened_at homes g

-- of the groups below a number, those that are at home on a core
pub record AreHomes (table : Table) (core n : ℕ) (homes : List (GroupId × Stack)) : Type 0 where
  pub within : All (λ h. h.0.0 < n) homes
  pub different : AllPairs (λ a b. a.0.0 ≡ b.0.0 → ⊥) homes
  pub each : (g : ℕ) → g < n → desk_of homes g ≡ home_or_none table core g

-- ## Cores
-- A core over these ends, with so many buffers, all of which are in its pool, and the groups that are at home there.
pub record CoreIsOpen (s : Settings) (table : Table) (number : ℕ) (ends : StackEnds) (core : StackCore) : Type 0 where
  pub homes : List (GroupId × Stack)
  pub are : AreHomes table number 512 homes
  pub is : IsOpened (record { 0 = number }) (record { home = record { 0 = number }; n = s.buffers; free = all_names (record { 0 = number }) s.buffers }) homes ends s.batch core

-- one core over each of these ends
pub record CoresAreOpen (s : Settings) (table : Table) (ends : List StackEnds) (cores : List StackCore) : Type 0 where
  pub count : length cores ≡ length ends
  pub each : (c : ℕ) (e : StackEnds) (d : StackCore) → c < length ends → CoreIsOpen s table c (slice_index_or ends c e) (slice_index_or cores c d)

-- The card and all cores, in order, over new rings. The table has room for so many turns.
pub record IsOpen (s : Settings) (turns : ℕ) (card : CardView) (cores : List StackCore) : Type 0 where
  pub table : card.table ≡ record { live = s.live; turns = []; room = turns }
  pub card_ends : List NicEnd
  pub core_ends : List StackEnds
  pub ports : card.ports ≡ map opened card_ends
  pub count : length core_ends ≡ s.cores
  pub order : EndsAreInOrder card_ends core_ends
  pub fresh : EndsAreNew 256 card_ends core_ends
  pub cores_are : CoresAreOpen s card.table core_ends cores
