-- The connects of an application that pushes, on core 0 before the first entry.
use Rattle.std.specs.Prelude.{◌≡◌, ℕ, ◌+◌, ◌<◌, Bool, false, ◌==◌, ◌&&◌, if◌then◌else◌, List, [], ◌∷◌, ◌++◌, length, slice_index_or, take, map, count_by, filter, Option, Some, None}
use Rattle.std.specs.List.{list_any}
use Rattle.ix_base.specs.declared.id.CoreId.{CoreId}
use Rattle.ix_base.specs.declared.id.Flow.{Flow}
use Rattle.ix_base.specs.declared.segment.Ret.{Ret}
use Rattle.ix_base.specs.declared.segment.Ret.TheVariants as rets
use Rattle.ix_conf.specs.Settings.{Settings}
use Rattle.ix_groupdef.specs.Flow.{same_flow}
use Rattle.ix_groupdef.specs.Group.{Connect, answer_to_connect, connect_all, empty}
use Rattle.ix_groupdef.specs.Setting.{Setting, mac_of}
use Rattle.ix_hash.specs.Group.{group_of_flow}
use Rattle.ix_playdef.specs.Setting.{is_push, setting_of_play}

abbrev pub core0 : CoreId
core0 = record { 0 = 0 }

-- the first port of those that are chosen freely (RFC 6335, section 6)
abbrev pub first_port : ℕ
first_port = 49152

-- an address and a port
abbrev pub same_peer : (ℕ × ℕ) → (ℕ × ℕ) → Bool
same_peer p q = (p.0 == q.0) && (p.1 == q.1)

-- The first port from there upward whose flow has no connection, behind the connects to earlier peers: those to the same peer took the
-- ports before it, one after another. There are at most 64 peers, so neither ports nor the places of a group run out.
abbrev pub port_behind : List (ℕ × ℕ) → (ℕ × ℕ) → ℕ
port_behind earlier peer = first_port + count_by (same_peer peer) earlier

abbrev pub connect_behind : List (ℕ × ℕ) → (ℕ × ℕ) → Connect
connect_behind earlier peer = record { core = core0; ip = peer.0; port = peer.1; local_port = port_behind earlier peer }

-- those to some peers, behind the connects to earlier ones
abbrev pub connects_from : List (ℕ × ℕ) → List (ℕ × ℕ) → List Connect
connects_from earlier [] = []
connects_from earlier (peer ∷ peers) = connect_behind earlier peer ∷ connects_from (earlier ++ peer ∷ []) peers

-- One to each peer, in the order of the configuration. That to a peer without a neighbour makes no connection.
abbrev pub connects_of : Settings → List Connect
connects_of s = if is_push s.app then connects_from [] s.peers else []

-- the flow that a connect from this address asks for
abbrev pub flow_asked : ℕ → Connect → Flow
flow_asked ip c = record { remote = c.ip; local = ip; remote_port = c.port; local_port = c.local_port }

abbrev pub is_asked_in : ℕ → ℕ → Connect → Bool
is_asked_in ip group c = group_of_flow (flow_asked ip c) == group

-- ## Groups
-- those whose flows are of a group
abbrev pub connects_in : Settings → ℕ → List Connect
connects_in s group = filter (is_asked_in s.ip group) (connects_of s)

-- ## What becomes of each
-- The answer to a connect behind earlier ones: of the group of its flow, after those of them whose flows are of that group.
abbrev pub answer_behind : Setting → List Connect → Connect → Ret
answer_behind env earlier c =
    let group : ℕ = group_of_flow (flow_asked env.local.ip c) in
    answer_to_connect (mac_of c.ip env.neighbours) (connect_all env (filter (is_asked_in env.local.ip group) earlier) empty).lives

-- those to some connects, behind earlier ones
abbrev pub answers_from : Setting → List Connect → List Connect → List Ret
answers_from env earlier [] = []
answers_from env earlier (c ∷ cs) = answer_behind env earlier c ∷ answers_from env (earlier ++ c ∷ []) cs

-- in the order of the peers
abbrev pub connect_answers : Settings → List (List ℕ) → List Ret
connect_answers s frames = answers_from (setting_of_play s frames) [] (connects_of s)

-- by the neighbour of its peer, where its group has room
abbrev pub answer_with_room : Option (List ℕ) → Ret
answer_with_room None = rets.NoNeighbour
answer_with_room (Some mac) = rets.Done 0

abbrev pub answer_to_peer : List (ℕ × List ℕ) → (ℕ × ℕ) → Ret
answer_to_peer neighbours peer = answer_with_room (mac_of peer.0 neighbours)

-- where every group has room
abbrev pub answers_with_room : Settings → List Ret
answers_with_room s = if is_push s.app then map (answer_to_peer s.neighbours) s.peers else []

-- ## Each asks for a flow of its own
abbrev pub same_asked : ℕ → Connect → Connect → Bool
same_asked ip c d = same_flow (flow_asked ip c) (flow_asked ip d)

-- no earlier one asks for its flow
pub record AreApart (ip : ℕ) (cs : List Connect) : Type 0 where
  pub each : (i : ℕ) (d : Connect) → i < length cs → list_any (same_asked ip (slice_index_or cs i d)) (take i cs) ≡ false
