-- Positions against the numbers that stand for them (RFC 9293, section 3.4).
use Rattle.std.specs.Prelude.{◌≡◌, ℕ, ◌+◌, Bool, true, false, if◌then◌else◌}
use Rattle.ix_base.specs.Sequence.{ahead}
use Rattle.ix_tcpdef.specs.declared.types.Connection.{Connection}
use Rattle.ix_tcpdef.specs.declared.types.State.{State}
use Rattle.ix_tcpdef.specs.declared.types.State.TheVariants as st
use Rattle.ix_tcpdef.specs.declared.types.Tcb.{Tcb}
use Rattle.ix_positions.specs.declared.positions.Positions.{Positions}

-- where a connection stands
abbrev pub positions_of : Connection → Positions
positions_of w = record { una = w.una; nxt = w.nxt; rcv = w.rcv }

abbrev pub is_established : State → Bool
is_established st.Established = true
is_established _ = false

-- Behind an opening the SYN alone was sent, and of a passive one the peer's SYN came.
abbrev pub opened_in : State → Positions → Positions
opened_in st.SynReceived p = record { una = 0; nxt = 1; rcv = 1 }
opened_in st.SynSent p = record { una = 0; nxt = 1; rcv = p.rcv }
opened_in _ p = p

-- The positions after a step that took the first numbers to the second. Each is as far on as its number; but before an opening nothing was
-- counted, and in SYN-SENT the peer's numbers begin with the SYN that establishes the connection.
abbrev pub further_in : State → Tcb → Tcb → Positions → Positions
further_in st.Listen old new p = opened_in new.state p
further_in st.SynSent old new p =
    record { una = p.una + ahead old.una new.una; nxt = p.nxt + ahead old.nxt new.nxt; rcv = if is_established new.state then 1 else p.rcv }
further_in _ old new p =
    record { una = p.una + ahead old.una new.una; nxt = p.nxt + ahead old.nxt new.nxt; rcv = p.rcv + ahead old.rcv_nxt new.rcv_nxt }

abbrev pub further : Tcb → Tcb → Positions → Positions
further old new p = further_in old.state old new p
