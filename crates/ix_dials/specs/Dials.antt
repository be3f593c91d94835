-- The connects of core 0 before the first entry: what they make of the flow groups, and what is told of them.
use Rattle.std.specs.Prelude.{◌≡◌, ◌<◌, ◌==◌, if◌then◌else◌, ℕ, suc, List, [], ◌∷◌, ◌++◌, filter, is_some, length, map}
use Rattle.ix_base.specs.declared.id.TheConstants.{FLOW_GROUPS}
use Rattle.ix_base.specs.declared.id.WireNo.{WireNo}
use Rattle.ix_base.specs.declared.segment.Ret.{Ret}
use Rattle.ix_base.specs.declared.segment.Ret.TheVariants as rets
use Rattle.ix_mbuf.specs.declared.name.Name.{Name}
use Rattle.ix_desk.specs.Desks.{group_at}
use Rattle.ix_desk.specs.Groups.{at_home, empty}
use Rattle.ix_desk.specs.Views.{View}
use Rattle.ix_stack.specs.declared.work.Work.{Work}
use Rattle.ix_core.specs.Connecting.{Connects}
use Rattle.ix_core.specs.declared.turning.Core.{Core}
use Rattle.ix_appdef.specs.declared.application.Application.{Application}
use Rattle.ix_groupdef.specs.declared.env.Env.{Env}
use Rattle.ix_groupdef.specs.Env.{setting_of}
use Rattle.ix_groupdef.specs.Group.{Connect}
use Rattle.ix_groupdef.specs.Setting.{mac_of}
use Rattle.ix_lines.specs.declared.types.ConnectLine.{ConnectLine}
use Rattle.ix_lines.specs.declared.types.ConnectLine.TheVariants as lines
use Rattle.ix_playdef.specs.Connects.{is_asked_in}
use Rattle.ix_plainstack.specs.Stack.{Stack, flow_to, holds_flow}
use Rattle.ix_plainstack.specs.Stack as stacks
use Rattle.ix_plainstack.specs.Standing.{Stands}
use Rattle.ix_reta.specs.Table.{opening_core}
use Rattle.ix_fits.specs.Connects.{answers_from, asked_from}

abbrev pub StackCore : Type 0
StackCore = Core Stack (Env Application)

-- ## The calls
-- a connect of a core to a peer, an address and a port
abbrev pub StackConnects : Env Application → ℕ → (ℕ × ℕ) → Ret → StackCore → StackCore → Type 0
StackConnects env cookie peer ret x y =
    Connects (λ e ip. is_some (mac_of ip e.neighbours)) flow_to holds_flow (λ u e core c flow r v. stacks.Connects u e core flow r v) env cookie peer.0 peer.1 ret x y

-- A core connects to some peers in turn, with cookies that count up, and each connect answers.
abbrev pub Dials : Env Application → ℕ → List (ℕ × ℕ) → List Ret → StackCore → StackCore → Type 0
Dials env cookie [] [] x y = y ≡ x
Dials env cookie [] (ret ∷ rets) x y = ⊥
Dials env cookie (peer ∷ peers) [] x y = ⊥
Dials env cookie (peer ∷ peers) (ret ∷ rets) x y = (mid : StackCore) × (StackConnects env cookie peer ret x mid × Dials env (suc cookie) peers rets mid y)

-- what a trace tells of an answer
abbrev pub connect_line : Ret → ConnectLine
connect_line rets.NoNeighbour = lines.NoNeighbour
connect_line rets.NoPort = lines.NoPort
connect_line rets.TableFull = lines.TableFull
connect_line (rets.Done n) = lines.Done
connect_line rets.BadHandle = lines.Done
connect_line rets.NotKnocked = lines.Done
connect_line rets.NotOpen = lines.Done
connect_line rets.TooMuch = lines.Done

-- ## What stands before and behind them
-- At these desks of a core are the stacks of the groups that are at home there, and nothing else.
pub record HasHomes (live core : ℕ) (unit : ℕ → Stack) (v : View Stack Work) : Type 0 where
  pub size : length v.groups ≡ 512
  pub home : (g : ℕ) → g < FLOW_GROUPS → group_at v g ≡ (if core == (opening_core live g).0 then at_home (unit g) else empty)

-- The stack of each group stands for those of some connects whose flows are of the group, and has stepped nothing. No flow is of a group that is at
-- home elsewhere than on core 0.
pub record StandFor (env : Env Application) (name : WireNo → Name) (live : ℕ) (asked : List Connect) (unit : ℕ → Stack) : Type 0 where
  pub stands : (g : ℕ) → g < FLOW_GROUPS → Stands env name (filter (is_asked_in env.local.ip g) asked) [] (unit g)
  pub steps : (g : ℕ) → g < FLOW_GROUPS → (unit g).steps ≡ []
  pub elsewhere : (g : ℕ) → g < FLOW_GROUPS → ((opening_core live g).0 ≡ 0 → ⊥) → filter (is_asked_in env.local.ip g) asked ≡ []

-- Behind connects to some peers, and earlier ones: the stacks stand for all that was asked, those at home elsewhere are as they were, and the answers
-- are told.
pub record AreDialed (env : Env Application) (name : WireNo → Name) (live : ℕ) (earlier : List Connect) (peers : List (ℕ × ℕ)) (rets : List Ret) (unit : ℕ → Stack) (x y : StackCore) : Type 0 where
  pub now : ℕ → Stack
  pub stand : StandFor env name live (earlier ++ asked_from (setting_of env) live earlier peers) now
  pub homes : HasHomes live 0 now y.desks
  pub others : (g : ℕ) → g < FLOW_GROUPS → ((opening_core live g).0 ≡ 0 → ⊥) → now g ≡ unit g
  pub told : map connect_line rets ≡ answers_from (setting_of env) live earlier peers
  pub rest : y ≡ record x { desks = y.desks }

-- ## The laws
-- Stacks that are new stand for no connects.
abbrev pub StandAtFirst : Type 0
StandAtFirst = (env : Env Application) (name : WireNo → Name) (live : ℕ) → StandFor env name live [] (λ g. stacks.empty_stack)

abbrev pub DialsAreAsked : Type 0
DialsAreAsked =
    (env : Env Application) (name : WireNo → Name) (live cookie : ℕ) (peers : List (ℕ × ℕ)) (rets : List Ret) (earlier : List Connect) (unit : ℕ → Stack) (x y : StackCore)
    → x.pool.home.0 ≡ 0 → StandFor env name live earlier unit → HasHomes live 0 unit x.desks → Dials env cookie peers rets x y
    → AreDialed env name live earlier peers rets unit x y
