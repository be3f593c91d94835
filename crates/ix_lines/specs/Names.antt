-- The words that stand for a state, a disposition, an answer (formats: docs/TRACE.md).
use Rattle.std.specs.Prelude.{find, ℕ, List, [], ◌∷◌, Option, Some, None, if◌then◌else◌, codes}
use Rattle.std.specs.Str.{bytes_eq}
use Rattle.std.specs.Fmt.{decimal}
use Rattle.ix_words.specs.Numbers.{number_of}
use Rattle.ix_words.specs.Fields.{field_of, with_rest}
use Rattle.ix_base.specs.declared.frame.Disposition.{Disposition}
use Rattle.ix_base.specs.declared.frame.Disposition.TheVariants as kinds
use Rattle.ix_tcpdef.specs.declared.types.State.{State}
use Rattle.ix_tcpdef.specs.declared.types.State.TheVariants as states
use Rattle.ix_lines.specs.declared.types.ConnectLine.{ConnectLine}
use Rattle.ix_lines.specs.declared.types.ConnectLine.TheVariants as connects
use Rattle.ix_lines.specs.declared.types.RetLine.{RetLine}
use Rattle.ix_lines.specs.declared.types.RetLine.TheVariants as rets
use Rattle.ix_lines.specs.declared.types.OutputLine.{OutputLine}
use Rattle.ix_lines.specs.declared.types.OutputLine.TheVariants as outputs

-- the first of these values whose word this is
abbrev pub named : {A : Type 0} → (A → List ℕ) → List A → List ℕ → Option A
named word xs w = find (λ x. bytes_eq w (word x)) xs

-- ## States, by the names of RFC 9293, section 3.3.2
abbrev pub state_word : State → List ℕ
state_word states.Listen = codes "LISTEN"
state_word states.SynSent = codes "SYN-SENT"
state_word states.SynReceived = codes "SYN-RECEIVED"
state_word states.Established = codes "ESTABLISHED"
state_word states.FinWait1 = codes "FIN-WAIT-1"
state_word states.FinWait2 = codes "FIN-WAIT-2"
state_word states.CloseWait = codes "CLOSE-WAIT"
state_word states.Closing = codes "CLOSING"
state_word states.LastAck = codes "LAST-ACK"
state_word states.TimeWait = codes "TIME-WAIT"
state_word states.Closed = codes "CLOSED"

abbrev pub all_states : List State
all_states =
    states.Listen ∷ states.SynSent ∷ states.SynReceived ∷ states.Established ∷ states.FinWait1 ∷ states.FinWait2 ∷ states.CloseWait ∷ states.Closing
    ∷ states.LastAck ∷ states.TimeWait ∷ states.Closed ∷ []

unfoldable pub state_of : List ℕ → Option State
state_of w = named state_word all_states w

-- ## Connects
abbrev pub connect_word : ConnectLine → List ℕ
connect_word connects.Done = codes "done"
connect_word connects.NoNeighbour = codes "no-neighbour"
connect_word connects.NoPort = codes "no-port"
connect_word connects.TableFull = codes "table-full"

unfoldable pub connect_answer_of : List ℕ → Option ConnectLine
connect_answer_of w = named connect_word (connects.Done ∷ connects.NoNeighbour ∷ connects.NoPort ∷ connects.TableFull ∷ []) w

-- ## Dispositions: one word, or two where an IPv4 packet or a TCP segment is bad
abbrev pub kind_words : Disposition → List (List ℕ)
kind_words kinds.NotIp = codes "not-ip" ∷ []
kind_words kinds.NotOurs = codes "not-ours" ∷ []
kind_words kinds.Arp = codes "arp" ∷ []
kind_words kinds.BadIpShort = codes "bad-ip" ∷ codes "short" ∷ []
kind_words kinds.BadIpVersion = codes "bad-ip" ∷ codes "version" ∷ []
kind_words kinds.BadIpLength = codes "bad-ip" ∷ codes "length" ∷ []
kind_words kinds.BadIpSum = codes "bad-ip" ∷ codes "sum" ∷ []
kind_words kinds.BadIpFragment = codes "bad-ip" ∷ codes "fragment" ∷ []
kind_words kinds.NotTcp = codes "not-tcp" ∷ []
kind_words kinds.BadTcpShort = codes "bad-tcp" ∷ codes "short" ∷ []
kind_words kinds.BadTcpOffset = codes "bad-tcp" ∷ codes "offset" ∷ []
kind_words kinds.BadTcpSum = codes "bad-tcp" ∷ codes "sum" ∷ []
kind_words kinds.Closed = codes "closed" ∷ []
kind_words kinds.Full = codes "full" ∷ []
kind_words kinds.IcmpEcho = codes "icmp-echo" ∷ []
kind_words kinds.UdpEcho = codes "udp-echo" ∷ []

abbrev pub last_word : List (List ℕ) → List ℕ
last_word [] = []
last_word (w ∷ []) = w
last_word (w ∷ v ∷ ws) = last_word (v ∷ ws)

abbrev pub kind_word : Disposition → List ℕ
kind_word k = last_word (kind_words k)

unfoldable pub plain_kind_of : List ℕ → Option Disposition
plain_kind_of w =
    named kind_word (kinds.NotIp ∷ kinds.NotOurs ∷ kinds.Arp ∷ kinds.NotTcp ∷ kinds.Closed ∷ kinds.Full ∷ kinds.IcmpEcho ∷ kinds.UdpEcho ∷ []) w

unfoldable pub ip_fault_of : List ℕ → Option Disposition
ip_fault_of w = named kind_word (kinds.BadIpShort ∷ kinds.BadIpVersion ∷ kinds.BadIpLength ∷ kinds.BadIpSum ∷ kinds.BadIpFragment ∷ []) w

unfoldable pub tcp_fault_of : List ℕ → Option Disposition
tcp_fault_of w = named kind_word (kinds.BadTcpShort ∷ kinds.BadTcpOffset ∷ kinds.BadTcpSum ∷ []) w

-- a disposition, and the words behind it
unfoldable pub kind_of : List (List ℕ) → Option (Disposition × List (List ℕ))
kind_of [] = None
kind_of (w ∷ ws) =
    if bytes_eq w (codes "bad-ip") then field_of ip_fault_of ws
    else if bytes_eq w (codes "bad-tcp") then field_of tcp_fault_of ws
    else with_rest ws (plain_kind_of w)

-- ## A reply of the card's own: its number, or a dash where there is none
abbrev pub reply_word : Option ℕ → List ℕ
reply_word None = codes "-"
reply_word (Some n) = decimal n

abbrev pub number_there : Option ℕ → Option (Option ℕ)
number_there None = None
number_there (Some n) = Some (Some n)

unfoldable pub reply_number_of : List ℕ → Option (Option ℕ)
reply_number_of w = if bytes_eq w (codes "-") then Some None else number_there (number_of 4294967295 w)

-- ## Answers of calls, events
abbrev pub ret_word : RetLine → List ℕ
ret_word (rets.Done n) = codes "done"
ret_word rets.BadHandle = codes "bad-handle"
ret_word rets.NotKnocked = codes "not-knocked"
ret_word rets.NotOpen = codes "not-open"
ret_word rets.TooMuch = codes "too-much"

unfoldable pub refusal_of : List ℕ → Option RetLine
refusal_of w = named ret_word (rets.BadHandle ∷ rets.NotKnocked ∷ rets.NotOpen ∷ rets.TooMuch ∷ []) w

abbrev pub outcome_word : OutputLine → List ℕ
outcome_word outputs.ConnectedUp = codes "up"
outcome_word outputs.ConnectedRefused = codes "refused"
outcome_word outputs.ConnectedTimeout = codes "timeout"
outcome_word outputs.DeadReset = codes "reset"
outcome_word outputs.DeadTimeout = codes "timeout"
outcome_word _ = []

unfoldable pub connected_of : List ℕ → Option OutputLine
connected_of w = named outcome_word (outputs.ConnectedUp ∷ outputs.ConnectedRefused ∷ outputs.ConnectedTimeout ∷ []) w

unfoldable pub dead_of : List ℕ → Option OutputLine
dead_of w = named outcome_word (outputs.DeadReset ∷ outputs.DeadTimeout ∷ []) w
