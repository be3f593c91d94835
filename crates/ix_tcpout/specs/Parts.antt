-- What a connection sends at the end of a cycle, over numbers, part by part.
use Rattle.std.specs.Prelude.{ℕ, zero, suc, ◌+◌, ◌-◌, ◌%◌, ◌^◌, true, false, nat_lt, ◌&&◌, ◌||◌, ◌==◌, not, if◌then◌else◌, List, [], ◌∷◌, ◌++◌, length, min, Some, is_none}
use Rattle.ix_base.specs.Sequence.{ahead}
use Rattle.ix_tcpdef.specs.Ticks.{later}
use Rattle.ix_tcpdef.specs.Flush.{resends, sends}
use Rattle.ix_tcpdef.specs.declared.types.Cfg.{Cfg}
use Rattle.ix_tcpdef.specs.declared.types.Tcb.{Tcb}
use Rattle.ix_base.specs.declared.segment.TheConstants.{ACK, FIN}
use Rattle.ix_tcpout.specs.declared.outs.OutSeg.{OutSeg}
use Rattle.ix_tcpout.specs.Heads.{bare, bytes, again_in}

-- the numbers so far, and the segments so far
pub record Work : Type 0 where
  pub numbers : Tcb
  pub entries : List OutSeg

abbrev pub work : Tcb → List OutSeg → Work
work t es = record { numbers = t; entries = es }

-- how many positions are in flight, and how many bytes were never sent
abbrev pub flight : Tcb → ℕ
flight t = ahead t.una t.nxt

abbrev pub unsent_bytes : Tcb → ℕ
unsent_bytes t = t.queued - flight t

-- first: the resend that fast retransmit asked for
unfoldable pub resend_part : Cfg → Work → Work
resend_part cfg k =
    if k.numbers.resend && resends k.numbers.state
    then work (record k.numbers { resend = false }) (k.entries ++ again_in k.numbers.state cfg k.numbers ∷ [])
    else k

-- so many bytes of the send queue from this place on, in segments of at most the send MSS; most: there are no more segments than that
abbrev pub segments : Cfg → Tcb → ℕ → ℕ → ℕ → List OutSeg
segments cfg t zero from left = []
segments cfg t (suc most) from zero = []
segments cfg t (suc most) from (suc left) =
    bytes cfg t from (min t.mss (suc left)) ∷ segments cfg t most (from + min t.mss (suc left)) (suc left - min t.mss (suc left))

-- second: data that both windows let out
abbrev pub sendable_bytes : Tcb → ℕ
sendable_bytes t = min (min t.wnd t.cwnd - flight t) (unsent_bytes t)

unfoldable pub data_part : Cfg → Work → Work
data_part cfg k =
    if sends k.numbers.state
    then work (record k.numbers { nxt = (k.numbers.nxt + sendable_bytes k.numbers) % 2 ^ 32 })
    (k.entries ++ segments cfg k.numbers (sendable_bytes k.numbers) (flight k.numbers) (sendable_bytes k.numbers))
    else k

-- third: the FIN, behind all data
unfoldable pub fin_part : Cfg → Work → Work
fin_part cfg k =
    if sends k.numbers.state && k.numbers.fin_wanted && not k.numbers.fin_sent && (unsent_bytes k.numbers == 0)
    then work (record k.numbers { nxt = (k.numbers.nxt + 1) % 2 ^ 32; fin_sent = true }) (k.entries ++ bare cfg k.numbers k.numbers.nxt (FIN + ACK) ∷ [])
    else k

-- fourth: an acknowledgement that is owed, where nothing carried it
unfoldable pub ack_part : Cfg → Work → Work
ack_part cfg k =
    if k.numbers.ack_owed && (length k.entries == 0)
    then work (record k.numbers { ack_owed = false }) (k.entries ++ bare cfg k.numbers k.numbers.nxt ACK ∷ [])
    else work (record k.numbers { ack_owed = false }) k.entries

-- fifth: the deadline
unfoldable pub arm_part : Cfg → ℕ → Tcb → Tcb
arm_part cfg now t =
    if is_none t.deadline && (not (t.una == t.nxt) || ((t.wnd == 0) && (nat_lt 0 (unsent_bytes t) || t.wants)))
    then record t { deadline = Some (later now cfg.rto) }
    else t

unfoldable pub all_parts : Cfg → ℕ → Work → Work
all_parts cfg now k =
    let sent : Work = ack_part cfg (fin_part cfg (data_part cfg (resend_part cfg k))) in
    work (arm_part cfg now sent.numbers) sent.entries
