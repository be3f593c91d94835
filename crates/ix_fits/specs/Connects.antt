-- The connects of an application that pushes, on core 0 before the first entry.
use Rattle.std.specs.Prelude.{ℕ, zero, suc, ◌+◌, ◌-◌, Bool, not, ◌&&◌, ◌==◌, if◌then◌else◌, List, [], ◌∷◌, ◌++◌, filter, Option, Some, None}
use Rattle.std.specs.List.{list_any}
use Rattle.ix_conf.specs.Settings.{Settings}
use Rattle.ix_groupdef.specs.Group.{Connect, connect_all, empty, has_room}
use Rattle.ix_groupdef.specs.Life.{Life, hears}
use Rattle.ix_groupdef.specs.Setting.{Setting, mac_of}
use Rattle.ix_hash.specs.Group.{group_of_flow}
use Rattle.ix_lines.specs.declared.types.ConnectLine.{ConnectLine}
use Rattle.ix_lines.specs.declared.types.ConnectLine.TheVariants as answers
use Rattle.ix_playdef.specs.Connects.{core0, first_port, flow_asked, is_asked_in}
use Rattle.ix_playdef.specs.Setting.{is_push}
use Rattle.ix_reta.specs.Table.{opening_core}

abbrev pub connect_by : (ℕ × ℕ) → ℕ → Connect
connect_by peer port = record { core = core0; ip = peer.0; port = peer.1; local_port = port }

abbrev pub group_asked : Setting → (ℕ × ℕ) → ℕ → ℕ
group_asked env peer port = group_of_flow (flow_asked env.local.ip (connect_by peer port))

-- the connections of a group behind earlier connects
abbrev pub lives_behind : Setting → List Connect → ℕ → List Life
lives_behind env earlier g = (connect_all env (filter (is_asked_in env.local.ip g) earlier) empty).lives

-- A port is free where its flow is of a group at home on core 0 and has no connection.
unfoldable pub is_free : Setting → ℕ → List Connect → (ℕ × ℕ) → ℕ → Bool
is_free env live earlier peer port =
    ((opening_core live (group_asked env peer port)).0 == 0)
    && not (list_any (hears (flow_asked env.local.ip (connect_by peer port))) (lives_behind env earlier (group_asked env peer port)))

-- the first free one of so many ports, from this one upwards
unfoldable pub free_port : (ℕ → Bool) → ℕ → ℕ → Option ℕ
free_port free port zero = None
free_port free port (suc n) = if free port then Some port else free_port free (port + 1) n

abbrev pub last_port : ℕ
last_port = 65535

abbrev pub port_behind : Setting → ℕ → List Connect → (ℕ × ℕ) → Option ℕ
port_behind env live earlier peer = free_port (is_free env live earlier peer) first_port (last_port + 1 - first_port)

-- what a connect to a peer asks a group for, behind earlier ones
abbrev pub asked_by : Option (List ℕ) → (ℕ × ℕ) → Option ℕ → List Connect
asked_by None peer port = []
asked_by (Some mac) peer None = []
asked_by (Some mac) peer (Some port) = connect_by peer port ∷ []

abbrev pub asked_behind : Setting → ℕ → List Connect → (ℕ × ℕ) → List Connect
asked_behind env live earlier peer = asked_by (mac_of peer.0 env.neighbours) peer (port_behind env live earlier peer)

abbrev pub asked_from : Setting → ℕ → List Connect → List (ℕ × ℕ) → List Connect
asked_from env live earlier [] = []
asked_from env live earlier (peer ∷ peers) =
    asked_behind env live earlier peer ++ asked_from env live (earlier ++ asked_behind env live earlier peer) peers

abbrev pub asked_of : Setting → Settings → List Connect
asked_of env s = if is_push s.app then asked_from env s.live [] s.peers else []

-- those whose flows are of a group
abbrev pub asked_in : Setting → Settings → ℕ → List Connect
asked_in env s g = filter (is_asked_in s.ip g) (asked_of env s)

-- ## What becomes of each
abbrev pub answer_by : Option (List ℕ) → Option ℕ → (ℕ → List Life) → ConnectLine
answer_by None port lives = answers.NoNeighbour
answer_by (Some mac) None lives = answers.NoPort
answer_by (Some mac) (Some port) lives = if has_room (lives port) then answers.Done else answers.TableFull

abbrev pub answer_behind : Setting → ℕ → List Connect → (ℕ × ℕ) → ConnectLine
answer_behind env live earlier peer =
    answer_by (mac_of peer.0 env.neighbours) (port_behind env live earlier peer) (λ port. lives_behind env earlier (group_asked env peer port))

abbrev pub answers_from : Setting → ℕ → List Connect → List (ℕ × ℕ) → List ConnectLine
answers_from env live earlier [] = []
answers_from env live earlier (peer ∷ peers) =
    answer_behind env live earlier peer ∷ answers_from env live (earlier ++ asked_behind env live earlier peer) peers

abbrev pub answers_of : Setting → Settings → List ConnectLine
answers_of env s = if is_push s.app then answers_from env s.live [] s.peers else []
